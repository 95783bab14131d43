-- The entries so far fill the records, and the index is that of the next one. The position is not moved yet.
use Rattle.std.proofs.Common.{◌≡◌}
use Rattle.goblin_pe_c_headers.proofs.GivenEntries.{AtEntry}
use Rattle.goblin_pe_c_headers.proofs.rich.fill_entries.Given as goal

abbrev pub invariant-records : goal.invariant-records
invariant-records l = record {
  made : AtEntry l.key l.stretch l.initial.position l.initial.records l.index l.records l.count;
  stays : l.position ≡ l.initial.position;
}
