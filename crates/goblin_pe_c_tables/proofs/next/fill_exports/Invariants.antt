-- The records hold the exports that have come so far.
use Rattle.std.proofs.Common.{◌+◌, ◌-◌, ◌<◌, ◌≤◌, length}
use Rattle.goblin_pe_export.specs.added.ExportWalks.{exports_position}
use Rattle.goblin_pe_c_tables.proofs.ExportBatches.{AtExports}
use Rattle.goblin_pe_c_tables.proofs.next.fill_exports.Given as goal

abbrev pub invariant-exports : goal.invariant-exports
invariant-exports l =
    AtExports l.longest l.fn.exports l.fn.records l.end l.exports l.records l.count

abbrev pub decreases-exports : goal.decreases-exports
decreases-exports l = length l.records - l.count

abbrev pub invariant-ascii : goal.invariant-ascii
invariant-ascii l =
    AtExports l.longest l.fn.exports l.fn.records l.end l.exports l.records l.count
    × (l.initial.count ≤ l.count)
    × (l.count < l.stop → exports_position l.exports + (l.stop - l.count) ≤ l.end)
    × (l.stop ≤ length l.records)

abbrev pub decreases-ascii : goal.decreases-ascii
decreases-ascii l = l.stop - l.count
