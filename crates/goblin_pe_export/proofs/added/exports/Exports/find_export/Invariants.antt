-- The first of those that are left is the first of all.
use Rattle.std.proofs.Common.{◌≡◌, Bool, find}
use Rattle.std.specs.Fn.{FnReturnsAt}
use Rattle.readings.specs.Tests.{IsTest}
use Rattle.goblin_pe_export.specs.added.ExportWalks.{NumberedExport, exports_left, walked_export}
use Rattle.goblin_pe_export.proofs.added.exports.Exports.find_export.Given as goal

abbrev pub invariant-exports : goal.invariant-exports
invariant-exports g l =
    (p : NumberedExport → Bool) → IsTest walked_export (FnReturnsAt g.F.Fn l.fn.test) p
    → find p (exports_left l.fn.self) ≡ find p (exports_left l.export-iterator)
