-- The sections so far are those of the table, each in the file.
use Rattle.std.proofs.Common.{◌≡◌, ◌+◌, ◌*◌, ◌<◌, ◌≤◌, ℕ, length, Some}
use Rattle.goblin_pe_sect.specs.Options.{is_strict}
use Rattle.goblin_pe_head.proofs.added.SectionRecords.{sections_from, unnamed_from}
use Rattle.goblin_pe_head.proofs.added.section_records.read_section_records.Given as goal

abbrev pub invariant-records : goal.invariant-records
invariant-records l = record {
  end : l.end ≡ l.offset + 40 * l.counter;
  within : 0 < l.counter → l.end ≤ length l.bytes;
  read : (table : ℕ) → unnamed_from (is_strict l.opts.parse_mode) table l.bytes l.offset l.counter ≡ Some (sections_from l.bytes l.offset l.counter);
}
