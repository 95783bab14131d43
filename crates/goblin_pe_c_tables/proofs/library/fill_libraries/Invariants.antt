-- The records hold the libraries that have come so far.
use Rattle.std.proofs.Common.{◌≡◌, ◌-◌, length}
use Rattle.goblin_pe_sect.specs.Addresses.{map_of}
use Rattle.goblin_pe.specs.added.Layouts.{layout_map, layout_places}
use Rattle.goblin_pe_c_tables.proofs.LibraryBatches.{AtLibraries}
use Rattle.goblin_pe_c_tables.proofs.library.fill_libraries.Given as goal

abbrev pub invariant-libraries : goal.invariant-libraries
invariant-libraries l =
    AtLibraries (layout_map l.layout) (layout_places l.layout) l.layout.bytes.now l.fn.steps l.initial.libraries l.initial.position l.initial.records l.libraries l.position l.left l.passed l.records l.count
    × (map_of l.finder ≡ layout_map l.layout)

abbrev pub decreases-libraries : goal.decreases-libraries
decreases-libraries l = length l.records - l.count
