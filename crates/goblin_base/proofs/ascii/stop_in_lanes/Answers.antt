use Rattle.std.proofs.Common.{refl, arith}
use Rattle.goblin_base.proofs.AsciiLanes.{all_ascii, run_within, run_ascii, run_stops}
use Rattle.goblin_base.proofs.ascii.stop_in_lanes.Goals as goal

pub returns-then-marks-eq0-clause-none : goal.returns-then-marks-eq0-clause-none
returns-then-marks-eq0-clause-none c _ = all_ascii c.args.bytes.now c.requires c.type_inv.bytes c.if-marks-eq0.true

pub returns-else-marks-eq0-clause-within : goal.returns-else-marks-eq0-clause-within
returns-else-marks-eq0-clause-within c = run_within c.args.bytes.now c.requires c.type_inv.bytes (omega arith)

pub returns-else-marks-eq0-clause-ascii : goal.returns-else-marks-eq0-clause-ascii
returns-else-marks-eq0-clause-ascii c = run_ascii c.args.bytes.now c.requires c.type_inv.bytes (omega arith)

pub returns-else-marks-eq0-clause-stops : goal.returns-else-marks-eq0-clause-stops
returns-else-marks-eq0-clause-stops c = run_stops c.args.bytes.now c.requires c.type_inv.bytes (omega arith) _ refl
