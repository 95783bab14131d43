use Rattle.std.specs.List.Sorted.{IsStrictlyIncreasing}
use Rattle.std.proofs.Common.{length, subst, sym, ◌<◌, ◌^◌, ◌/◌, ◌+◌, arith, rules}
use Rattle.std.proofs.lemmas.Grind.{common_steps}
use Rattle.goblin_pe_sect.proofs.Halving.{searched_up, searched_down, searched_all, searched_fewest, searched_counted}
use Rattle.goblin_pe_sect.proofs.windows.search.Goals as goal

pub reaches-requires-clause-room : goal.reaches-requires-clause-room
reaches-requires-clause-room c =
    let fits : length c.new-bounds.result < 2 ^ 64 = omega arith in
    omega (arith, c.halving.invariant.0.most 64 fits)

pub halving-preserved-then-reaches : goal.halving-preserved-then-reaches
halving-preserved-then-reaches c =
    (rw c.reaches.ensures.counted (searched_up _ _ _ _ _ ((c.halving.low + c.halving.high) / 2) (subst IsStrictlyIncreasing (sym c.new-bounds.ensures) c.requires) c.halving.invariant.0 (omega arith) (omega arith) (omega arith) (omega arith) (search rules)), c.halving.invariant.1)

pub halving-preserved : goal.halving-preserved
halving-preserved c =
    (rw c.reaches.ensures.counted (searched_down _ _ _ _ _ ((c.halving.low + c.halving.high) / 2) (subst IsStrictlyIncreasing (sym c.new-bounds.ensures) c.requires) c.halving.invariant.0 (omega arith) (omega arith) (omega arith) (omega arith) (grind (arith, common_steps))), omega arith)

pub returns-clause-value : goal.returns-clause-value
returns-clause-value c = rw c.new-bounds.ensures at (searched_all c.new-bounds.result _ _ _ _ c.halving.invariant.0 c.halving-test.false)

pub returns-clause-few : goal.returns-clause-few
returns-clause-few c =
    let fits : length c.new-bounds.result < 2 ^ 64 = omega arith in
    (c.halving.invariant.0.most 64 fits).0

pub returns-clause-fewest : goal.returns-clause-fewest
returns-clause-fewest c = rw c.new-bounds.ensures at (searched_fewest c.new-bounds.result _ _ _ _ c.halving.invariant.0 c.halving-test.false)

pub returns-clause-counted : goal.returns-clause-counted
returns-clause-counted c = rw c.new-bounds.ensures at (searched_counted c.new-bounds.result _ _ _ _ c.halving.invariant.0 c.halving-test.false)
