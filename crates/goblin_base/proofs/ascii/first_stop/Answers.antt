use Rattle.std.proofs.Common.{arith}
use Rattle.goblin_base.proofs.AsciiRuns.{run_after}
use Rattle.goblin_base.proofs.ascii.first_stop.Goals as goal

pub returns-in-Some-clause-ascii : goal.returns-in-Some-clause-ascii
returns-in-Some-clause-ascii c =
    run_after c.args.bytes.now c.lanes.at c.in-Some.run' c.lanes.invariant.1 c.in-Some.ensures.ascii

pub lanes-preserved : goal.lanes-preserved
lanes-preserved c =
    (omega (arith, c.lanes-test.true), run_after c.args.bytes.now c.lanes.at 16 c.lanes.invariant.1 (c.stop_in_lanes.ensures.none c.in_default.is), omega (arith, c.lanes.invariant.2))
