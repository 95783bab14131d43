-- What is printed so far, and what is printed of the blocks that are left, are all lines.
use Rattle.std.proofs.Common.{◌≡◌, ◌++◌, string_bytes, flat_map}
use Rattle.goblin_pe.specs.sect.BaseRelocations.{block_items, blocks_left, relocation_bytes}
use Rattle.pe_listing.specs.Lines.{block_line}
use Rattle.pe_listing.proofs.lines.push_blocks.Given as goal

abbrev pub invariant-blocks-2 : goal.invariant-blocks-2
invariant-blocks-2 l =
    string_bytes l.text ++ flat_map block_line (blocks_left l.block-iterator) ≡ string_bytes l.initial.text ++ flat_map block_line (block_items (relocation_bytes l.relocations) 0)
