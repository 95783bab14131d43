-- The entries so far are those of the file.
use Rattle.std.proofs.Common.{◌≡◌, Some}
use Rattle.goblin_pe_sect.specs.DirectoryReadings.{directories_at}
use Rattle.goblin_pe_sect.proofs.data_directories.fill.Given as goal

abbrev pub invariant-entries : goal.invariant-entries
invariant-entries l = (directories_at l.i l.offset).value l.bytes ≡ Some l.entries
