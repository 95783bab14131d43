-- The records hold the imports that have come so far.
use Rattle.std.proofs.Common.{◌-◌, length}
use Rattle.goblin_pe.specs.added.Layouts.{layout_map, layout_places}
use Rattle.goblin_pe_c_tables.proofs.ImportBatches.{AtImports}
use Rattle.goblin_pe_c_tables.proofs.next.fill_imports.Given as goal

abbrev pub invariant-imports : goal.invariant-imports
invariant-imports l =
    AtImports (layout_map l.layout) (layout_places l.layout) l.layout.bytes.now l.fn.steps l.initial.imports l.initial.position l.initial.records l.imports l.position l.left l.passed l.records l.count

abbrev pub decreases-imports : goal.decreases-imports
decreases-imports l = length l.records - l.count
