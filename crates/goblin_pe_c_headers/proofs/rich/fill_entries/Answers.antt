use Rattle.std.proofs.Common.{◌∙◌, arith, refl, sym}
use Rattle.goblin_pe_c_headers.proofs.GivenOnward.{index-full, index-start}
use Rattle.goblin_pe_c_headers.proofs.GivenEntries.{entry-end, entry-fault, entry-next, entry-rest}
use Rattle.goblin_pe_c_headers.proofs.rich.fill_entries.Goals as goal
use Rattle.goblin_pe_c_headers.proofs.rich.fill_entries.Goals.{else-has_rest-via-then-has_rest+else-count-eq0, else-has_rest-via-else-has_rest}

pub records-init : goal.records-init
records-init c = record { made = index-start _ _ _ _ _ refl (omega arith); stays = refl }

pub records-preserved : goal.records-preserved
records-preserved c = record {
  made = entry-next _ _ c.records.invariant.made _ _ c.requires (sym c.in-Some.ensures) refl
      (omega (arith, c.records-test.true, c.records.auto.records));
  stays = c.records.invariant.stays;
}

pub returns-then-count-eq0 : goal.returns-then-count-eq0
returns-then-count-eq0 c =
    let fault = entry-fault _ _ c.records.invariant.made (sym c.is_rest-has_rest.ensures ∙ c.if-has_rest.true) c.if-count-eq0.true
    (omega (arith, c.records-test.true, c.records.auto.records)) in
    (fault.0, rw (c.records.invariant.stays, fault.1) refl)

pub returns-in_default : goal.returns-in_default
returns-in_default c =
    elim c.else-has_rest.branch [
      | else-has_rest-via-then-has_rest+else-count-eq0 w ↦
          rw (c.batch_of.ensures, w.if-has_rest.true) (entry-rest _ _ c.records.invariant.made (sym c.is_rest-has_rest.ensures ∙ w.if-has_rest.true) w.if-count-eq0.false)
      | else-has_rest-via-else-has_rest w ↦
          rw (c.batch_of.ensures, w.if-has_rest.false) (entry-end _ _ c.records.invariant.made (sym c.in_default.ensures) (sym c.is_rest-has_rest.ensures ∙ w.if-has_rest.false)
          (omega (arith, c.records-test.true, c.records.auto.records)))
    ]

pub returns : goal.returns
returns c =
    rw c.goes_on.ensures (index-full c.records.invariant.made _
    (omega (arith, c.records-test.false, c.records.auto.count-end, c.records.auto.records))
    (omega (arith, c.records-test.false, c.records.auto.count-end, c.records.auto.records)))
