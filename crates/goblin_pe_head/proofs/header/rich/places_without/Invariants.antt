use Rattle.std.proofs.Common.{ℕ, ◌≡◌, ◌-◌, ◌<◌, ◌≤◌, false, ◌==◌}
use Rattle.goblin_pe_head.specs.RichHeader.{word_at}
use Rattle.goblin_pe_head.proofs.header.rich.places_without.Given as goal

abbrev pub invariant-lanes : goal.invariant-lanes
invariant-lanes l = (l.passed ≤ l.count) × ((k : ℕ) → k < l.passed → (word_at l.bytes k == l.word) ≡ false)

abbrev pub decreases-lanes : goal.decreases-lanes
decreases-lanes l = l.count - l.passed
