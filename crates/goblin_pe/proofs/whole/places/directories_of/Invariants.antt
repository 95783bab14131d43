-- The directories so far are those of the entries, and there are sixteen.
use Rattle.std.specs.Prelude.{◌≡◌, length, map, take}
use Rattle.goblin_pe_sect.specs.DataDirectories.{directory_or_zeros}
use Rattle.goblin_pe.proofs.whole.places.directories_of.Given as goal

abbrev pub invariant-entries : goal.invariant-entries
invariant-entries l = (take l.i l.directories ≡ map directory_or_zeros (take l.i l.fn.entries.data_directories)) × (length l.directories ≡ 16)
