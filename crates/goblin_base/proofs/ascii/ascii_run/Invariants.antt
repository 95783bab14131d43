use Rattle.std.proofs.Common.{length, ◌-◌, ◌≤◌}
use Rattle.goblin_base.proofs.AsciiRuns.{AreNonzeroAscii}
use Rattle.goblin_base.proofs.ascii.ascii_run.Given as goal

abbrev pub invariant-bytes : goal.invariant-bytes
invariant-bytes l = (l.at ≤ length l.bytes) × AreNonzeroAscii l.bytes l.at

abbrev pub decreases-bytes : goal.decreases-bytes
decreases-bytes l = length l.bytes - l.at
