use Rattle.std.proofs.Common.{length, ◌-◌, ◌≤◌, ◌*◌, ◌/◌, ◌≡◌}
use Rattle.goblin_base.proofs.AsciiRuns.{AreNonzeroAscii}
use Rattle.goblin_base.proofs.ascii.first_stop.Given as goal

abbrev pub invariant-lanes : goal.invariant-lanes
invariant-lanes l = (l.at ≤ length l.bytes) × AreNonzeroAscii l.bytes l.at × (l.at ≡ l.at / 16 * 16)

abbrev pub decreases-lanes : goal.decreases-lanes
decreases-lanes l = length l.bytes - l.at
