use Rattle.goblin_pe_sect.specs.WindowIndex.{begins_of, owners_of}
use Rattle.goblin_pe_sect.proofs.InOrder.{AreInOrder}
use Rattle.goblin_pe_sect.proofs.windows.division.push_in_order.Given as goal

abbrev pub invariant-sections : goal.invariant-sections
invariant-sections l = AreInOrder l.fn.mapping l.fn.file_alignment l.fn.sections (begins_of l.pieces.items) (owners_of l.pieces.items) l.end l.index
