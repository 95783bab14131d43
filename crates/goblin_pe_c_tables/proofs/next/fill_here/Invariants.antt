-- The records hold the ASCII imports that have come so far.
use Rattle.std.proofs.Common.{◌≡◌, ◌-◌, ◌≤◌, length}
use Rattle.goblin_pe_import.specs.added.ImportWalks.{ascii_at}
use Rattle.goblin_pe_c_tables.specs.{Batches.Fills, Imports.GivesHere}
use Rattle.goblin_pe_c_tables.proofs.next.fill_here.Given as goal

abbrev pub invariant-ascii : goal.invariant-ascii
invariant-ascii g l =
    GivesHere g.T.Bitfield.format l.initial.imports (ascii_at l.ascii) (Fills l.longest l.initial.records l.records l.first l.count)
    × (l.first ≤ l.count)
    × (l.ascii.imports ≡ l.initial.imports)
    × (length l.records ≡ length l.initial.records)
    × (l.first ≤ l.end → l.count ≤ l.end)

abbrev pub decreases-ascii : goal.decreases-ascii
decreases-ascii g l = length l.records - l.count
