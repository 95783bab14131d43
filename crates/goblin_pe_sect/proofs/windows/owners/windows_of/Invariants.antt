use Rattle.std.proofs.Common.{◌≡◌, take}
use Rattle.goblin_pe_sect.specs.WindowStretches.{section_windows}
use Rattle.goblin_pe_sect.proofs.windows.owners.windows_of.Given as goal

abbrev pub invariant-sections : goal.invariant-sections
invariant-sections l = l.windows.items ≡ section_windows l.fn.mapping l.fn.file_alignment (take l.index l.fn.sections)
