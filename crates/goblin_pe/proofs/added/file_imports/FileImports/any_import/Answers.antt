use Rattle.readings.proofs.added.Questions.{found_any_of}
use Rattle.goblin_pe_import.specs.added.ImportWalks.{walked_value}
use Rattle.goblin_pe.proofs.added.file_imports.FileImports.any_import.Goals as goal

pub returns : goal.returns
returns g c = λ p is. rw c.is_some.ensures (found_any_of walked_value p _ c.in_ok-found.found (c.in_ok-found.ensures p is))
