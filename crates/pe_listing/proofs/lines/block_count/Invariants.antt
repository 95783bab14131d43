-- The blocks that are counted, and those that are left, are all blocks.
use Rattle.std.proofs.Common.{◌≡◌, ◌+◌}
use Rattle.goblin_pe.specs.sect.BaseRelocations.{block_items, blocks_left, relocation_bytes}
use Rattle.pe_listing.specs.Lines.{block_count}
use Rattle.pe_listing.proofs.lines.block_count.Given as goal

abbrev pub invariant-blocks-2 : goal.invariant-blocks-2
invariant-blocks-2 l = l.count + block_count (blocks_left l.block-iterator) ≡ block_count (block_items (relocation_bytes l.relocations) 0)
