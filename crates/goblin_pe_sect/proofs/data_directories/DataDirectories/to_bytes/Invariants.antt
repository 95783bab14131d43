-- The entries so far are written.
use Rattle.std.proofs.Common.{◌≡◌, ◌*◌, drop, length}
use Rattle.goblin_base.specs.Record.{encoding}
use Rattle.goblin_base.proofs.Writing.{IsPutting}
use Rattle.goblin_pe_sect.specs.DataDirectories.{entries_fields}
use Rattle.goblin_pe_sect.proofs.data_directories.DataDirectories.to_bytes.Given as goal

abbrev pub invariant-entries : goal.invariant-entries
invariant-entries l = record {
  long : length l.table ≡ 128;
  going : IsPutting l.endian (entries_fields (drop l.i l.self.data_directories)) (8 * l.i) l.table (encoding l.endian (entries_fields l.self.data_directories));
}
