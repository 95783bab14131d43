-- The records hold the blocks that have come so far; the caller's position moves only at the end.
use Rattle.std.proofs.Common.{◌-◌, ◌≡◌, length}
use Rattle.goblin_pe_sect.specs.BaseRelocations.{relocation_bytes}
use Rattle.goblin_pe_c_tables.proofs.BlockBatches.{AtBlocks}
use Rattle.goblin_pe_c_tables.proofs.block.fill_blocks.Given as goal

abbrev pub invariant-items : goal.invariant-items
invariant-items l =
    AtBlocks l.fn.begin (relocation_bytes l.relocations) l.initial.position l.initial.records l.offset l.records l.count
    × (l.position ≡ l.initial.position)

abbrev pub decreases-items : goal.decreases-items
decreases-items l = length l.records - l.count
