use Rattle.std.proofs.Common.{rules}
use Rattle.goblin_pe_sect.specs.WindowIndex.{begins_of, owners_of}
use Rattle.goblin_pe_sect.proofs.WindowPieces.{located-direct, located-unaligned, located-prepared, index_is}
use Rattle.goblin_pe_sect.proofs.windows.WindowIndex.prepare_by.Goals as goal

pub returns-then-not-mapping-clause-mapped : goal.returns-then-not-mapping-clause-mapped
returns-then-not-mapping-clause-mapped c =
    λ rva. rw c.without_pieces.ensures (located-direct c.args.mapping c.args.sections.now c.args.file_alignment rva (search rules))

pub returns-then-not-is_power_of_two-clause-mapped : goal.returns-then-not-is_power_of_two-clause-mapped
returns-then-not-is_power_of_two-clause-mapped c =
    λ rva. rw c.without_pieces-then-not-is_power_of_two.ensures (located-unaligned c.args.mapping c.args.sections.now c.args.file_alignment rva (search rules) (cc))

pub invariant_of-result : goal.invariant_of-result
invariant_of-result c =
    rw c.in_ok-pieces.ensures.owned (index_is c.args.mapping c.args.sections.now c.args.file_alignment (begins_of c.in_ok-pieces.pieces.items) c.in_ok-pieces.ensures.cut c.in_ok-pieces.ensures.near)

pub returns-clause-mapped : goal.returns-clause-mapped
returns-clause-mapped c =
    λ rva. located-prepared c.args.mapping c.args.sections.now c.args.file_alignment (begins_of c.in_ok-pieces.pieces.items) (owners_of c.in_ok-pieces.pieces.items) (search rules) (cc) c.in_ok-pieces.ensures.cut c.in_ok-pieces.ensures.owned rva
