use Rattle.std.proofs.Common.{arith, refl, sym}
use Rattle.goblin_pe_c_headers.proofs.GivenOnward.{index-full, row-end, row-next, row-start}
use Rattle.goblin_pe_c_headers.proofs.onward.fill_onward.Goals as goal

pub records-init : goal.records-init
records-init g c = λ items short says. row-start (λ w. w) items c.args.position.now c.args.records.now

pub records-preserved : goal.records-preserved
records-preserved g c = λ items short says.
    row-next (c.records.invariant items short says) _ _ short (sym (says _ _ c.in-Some.ensures)) refl
    (omega (arith, c.records-test.true, c.records.auto.records))

pub returns-in_default : goal.returns-in_default
returns-in_default g c = λ items short says.
    rw c.ended.ensures (row-end (c.records.invariant items short says) (sym (says _ _ c.in_default.ensures))
    (omega (arith, c.records-test.true, c.records.auto.records)))

pub returns : goal.returns
returns g c = λ items short says.
    rw c.goes_on.ensures (index-full (c.records.invariant items short says) _
    (omega (arith, c.records-test.false, c.records.auto.count-end, c.records.auto.records))
    (omega (arith, c.records-test.false, c.records.auto.count-end, c.records.auto.records)))
