-- The sections so far are those in the file, and there is room for all.
use Rattle.std.proofs.Common.{◌≡◌, ◌+◌, ◌*◌, Some, vec_capacity, vec_len}
use Rattle.goblin_pe_sect.specs.Options.{is_strict}
use Rattle.goblin_pe_head.specs.TeHeader.{moved_sections}
use Rattle.goblin_pe_head.proofs.header.sections.read_sections.Given as goal

abbrev pub invariant-records : goal.invariant-records
invariant-records l = record {
  end : l.end ≡ l.offset + 40 * l.counter;
  read : (moved_sections l.displacement (is_strict l.opts.parse_mode) l.string_table_offset l.counter l.offset).value l.bytes ≡ Some l.sections.items;
  len : vec_len l.sections ≡ l.counter;
  capacity : vec_capacity l.sections ≡ l.count;
}
