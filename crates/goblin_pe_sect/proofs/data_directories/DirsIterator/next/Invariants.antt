-- No entry that was passed over is a directory.
use Rattle.std.proofs.Common.{◌≡◌}
use Rattle.goblin_pe_sect.specs.DataDirectories.{dirs_left, present_from}
use Rattle.goblin_pe_sect.proofs.data_directories.DirsIterator.next.Given as goal

abbrev pub invariant-entries : goal.invariant-entries
invariant-entries l = record {
  at : l.self.index ≡ l.index;
  left : present_from l.index l.self.directories.data_directories ≡ dirs_left l.fn.self;
}
