use Rattle.std.proofs.Common.{◌≡◌, Some}
use Rattle.goblin_base.specs.Tables.{each_below}
use Rattle.goblin_pe_import.proofs.Imports.{imported_at}
use Rattle.goblin_pe_import.proofs.import.listed.imports_of.Given as goal

abbrev pub invariant-libraries : goal.invariant-libraries
invariant-libraries l = each_below (imported_at l.fn.size l.fn.libraries) l.library-index ≡ Some l.imports.items
