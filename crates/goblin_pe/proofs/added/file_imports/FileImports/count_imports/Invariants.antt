use Rattle.std.proofs.Common.{Bool}
use Rattle.std.specs.Fn.{FnReturnsAt}
use Rattle.goblin_pe_import.specs.{Imports.NumberedImport, added.ImportWalks.walked_value}
use Rattle.readings.specs.{Tests.IsTest, added.Questions.counted}
use Rattle.goblin_pe.proofs.added.Folds.{Gathers}
use Rattle.goblin_pe.proofs.added.file_imports.FileImports.count_imports.Given as goal

abbrev pub invariant-imports : goal.invariant-imports
invariant-imports g l =
    (p : NumberedImport → Bool) → IsTest walked_value (FnReturnsAt g.F.Fn l.fn.test) p
    → Gathers (counted p) l.fn.self l.import-iterator l.count
