-- Those that are counted, and those that are left, are all.
use Rattle.std.proofs.Common.{◌≡◌, ◌+◌, ◌≤◌, Bool, count_by}
use Rattle.std.specs.Fn.{FnReturnsAt}
use Rattle.readings.specs.Tests.{IsTest}
use Rattle.goblin_pe_export.specs.added.ExportWalks.{NumberedExport, exports_bound, exports_left, walked_export}
use Rattle.goblin_pe_export.proofs.added.exports.Exports.count_exports.Given as goal

abbrev pub invariant-exports : goal.invariant-exports
invariant-exports g l =
    ((p : NumberedExport → Bool) → IsTest walked_export (FnReturnsAt g.F.Fn l.fn.test) p
    → l.count + count_by p (exports_left l.export-iterator) ≡ count_by p (exports_left l.fn.self))
    × (l.count + exports_bound l.export-iterator ≤ exports_bound l.fn.self)
