use Rattle.std.proofs.Common.{◌≤◌, ◌∙◌, ℕ, arith, refl, subst, sym}
use Rattle.goblin_base.specs.declared.error.ErrorOf.TheVariants.{Malformed}
use Rattle.goblin_base.specs.declared.error.CauseOf.TheVariants.{LookupEnd}
use Rattle.goblin_pe_import.specs.{ImportEntries.entry_slots, Steps.AreCounted, Steps.slots_ahead}
use Rattle.goblin_pe_import.proofs.LookupWalk.{refused-strictly, rest-end, rest-kept, rest-missing, rest-refused, rest-skip}
use Rattle.goblin_pe_import.proofs.Modes.{ends, lacks_end}
use Rattle.goblin_pe_import.proofs.PassedSlots.{counts-end, passed-kept, passed-skip, risen-same}
use Rattle.goblin_pe_import.proofs.SlotSteps.{counted-one, grown_spent, refused-one}
use Rattle.readings.proofs.Walks.{stop-first, stop-next}
use Rattle.goblin_pe_import.proofs.import.kept.next_kept_within.Goals as goal

pub returns-then-may_end-clause-steps : goal.returns-then-may_end-clause-steps
returns-then-may_end-clause-steps g c =
    let wide : 1 ≤ g.T.Bitfield.format.width = omega (arith, c.size_of-size.ensures.width, c.size_of-size.ensures.positive) in
    let may = rw (c.reads_strictly.ensures, c.slots.invariant.1, c.size_of-size.ensures.width) at c.may_end.ensures in
    let end = rest-end _ _ _ _ _ _ _ c.slots.invariant.0 wide _ refl c.in_default-next_entry.ensures (ends _ _ g.T.Bitfield.format.value_of _ may c.if-may_end.true) in
    (end.0 ∙ sym end.1, λ e fault. absurd fault)

pub returns-then-may_end-clause-counted : goal.returns-then-may_end-clause-counted
returns-then-may_end-clause-counted g c =
    let wide : 1 ≤ g.T.Bitfield.format.width = omega (arith, c.size_of-size.ensures.width, c.size_of-size.ensures.positive) in
    let format = g.T.Bitfield.format in
    subst (λ (n : ℕ). AreCounted c.args.steps.now c.slots.steps (slots_ahead format c.args.bytes.now c.args.place.now) n)
    (stop-first (entry_slots format) c.args.bytes.now c.slots.at wide _ refl c.in_default-next_entry.ensures) c.slots.invariant.2

pub returns-then-may_end-clause-passed : goal.returns-then-may_end-clause-passed
returns-then-may_end-clause-passed g c k =
    let wide : 1 ≤ g.T.Bitfield.format.width = omega (arith, c.size_of-size.ensures.width, c.size_of-size.ensures.positive) in
    counts-end (entry_slots g.T.Bitfield.format) _ k c.args.bytes.now c.slots.at wide c.in_default-next_entry.ensures c.slots.passed c.add_end.new.self
    (rw c.size_of-size.ensures.width at c.add_end.ensures.skipped) c.add_end.ensures.unmapped _ _ (c.slots.invariant.5 k)

pub returns-in_default-next_entry-clause-steps : goal.returns-in_default-next_entry-clause-steps
returns-in_default-next_entry-clause-steps g c =
    let wide : 1 ≤ g.T.Bitfield.format.width = omega (arith, c.size_of-size.ensures.width, c.size_of-size.ensures.positive) in
    let may = rw (c.reads_strictly.ensures, c.slots.invariant.1, c.size_of-size.ensures.width) at c.may_end.ensures in
    let lacks = lacks_end _ _ g.T.Bitfield.format.value_of _ may c.if-may_end.false in
    rest-missing _ _ _ _ _ _ _ c.slots.invariant.0 wide (Malformed (LookupEnd c.slots.at)) lacks.1 lacks.0 refl

pub returns-in-Ok-Some-clause-steps : goal.returns-in-Ok-Some-clause-steps
returns-in-Ok-Some-clause-steps g c =
    let wide : 1 ≤ g.T.Bitfield.format.width = omega (arith, c.size_of-size.ensures.width, c.size_of-size.ensures.positive) in
    rw (c.saturating_sub.ensures, c.size_of-size.ensures.width) (rest-kept _ _ _ _ _ _ _ c.slots.invariant.0 wide _ c.in-Some-next_entry.ensures.0 c.in-Some-next_entry.ensures.1 _ (rw c.slots.invariant.1 at c.in-Ok-Some.ensures.value) _ c.in-Ok-Some.field-0-is)

pub returns-in-Ok-Some-clause-counted : goal.returns-in-Ok-Some-clause-counted
returns-in-Ok-Some-clause-counted g c =
    let wide : 1 ≤ g.T.Bitfield.format.width = omega (arith, c.size_of-size.ensures.width, c.size_of-size.ensures.positive) in
    let next = stop-next (entry_slots g.T.Bitfield.format) c.args.bytes.now c.slots.at wide _ c.in-Some-next_entry.ensures.0 c.in-Some-next_entry.ensures.1 in
    rw (c.spend-in-slots.ensures, c.size_of-size.ensures.width)
    (counted-one c.args.steps.now c.slots.steps _ _ _ (c.are_out.ensures.no c.if-are_out.false) next c.slots.invariant.2)

pub returns-in-Ok-Some-clause-passed : goal.returns-in-Ok-Some-clause-passed
returns-in-Ok-Some-clause-passed g c k =
    let wide : 1 ≤ g.T.Bitfield.format.width = omega (arith, c.size_of-size.ensures.width, c.size_of-size.ensures.positive) in
    rw c.size_of-size.ensures.width
    (risen-same _ _ _ _ _ (c.slots.invariant.5 k) (passed-kept _ _ _ _ c.slots.at wide _ c.in-Some-next_entry.ensures.0 c.in-Some-next_entry.ensures.1 _ (rw c.slots.invariant.1 at c.in-Ok-Some.ensures.value) _ c.in-Ok-Some.field-0-is k))

pub returns-in-Ok-Some-clause-less : goal.returns-in-Ok-Some-clause-less
returns-in-Ok-Some-clause-less g c =
    let wide : 1 ≤ g.T.Bitfield.format.width = omega (arith, c.size_of-size.ensures.width, c.size_of-size.ensures.positive) in
    let next = stop-next (entry_slots g.T.Bitfield.format) c.args.bytes.now c.slots.at wide _ c.in-Some-next_entry.ensures.0 c.in-Some-next_entry.ensures.1 in
    let less = c.slots.invariant.3 in
    rw c.size_of-size.ensures.width (omega (arith, next, less))

pub returns-in-Err-clause-steps : goal.returns-in-Err-clause-steps
returns-in-Err-clause-steps g c =
    let wide : 1 ≤ g.T.Bitfield.format.width = omega (arith, c.size_of-size.ensures.width, c.size_of-size.ensures.positive) in
    rest-refused _ _ _ _ _ _ _ c.slots.invariant.0 wide _ c.in-Some-next_entry.ensures.0 c.in-Some-next_entry.ensures.1 _ (rw c.slots.invariant.1 at c.in-Err.ensures.value)

pub slots-preserved : goal.slots-preserved
slots-preserved g c =
    let wide : 1 ≤ g.T.Bitfield.format.width = omega (arith, c.size_of-size.ensures.width, c.size_of-size.ensures.positive) in
    let next = stop-next (entry_slots g.T.Bitfield.format) c.args.bytes.now c.slots.at wide _ c.in-Some-next_entry.ensures.0 c.in-Some-next_entry.ensures.1 in
    let less = c.slots.invariant.3 in
    rw (c.spend-in-slots.ensures, c.size_of-size.ensures.width) (
      rest-skip _ _ _ _ _ _ _ c.slots.invariant.0 wide _ c.in-Some-next_entry.ensures.0 c.in-Some-next_entry.ensures.1 _ (rw c.slots.invariant.1 at c.in-Ok-None.ensures.value) c.in-Ok-None.field-0-is,
      c.add_entry.ensures.same ∙ c.in-Ok-None.ensures.same ∙ c.slots.invariant.1,
      counted-one c.args.steps.now c.slots.steps _ _ _ (c.are_out.ensures.no c.if-are_out.false) next c.slots.invariant.2,
      omega (arith, next, less),
      grown_spent c.args.steps.now c.slots.steps 1 c.slots.invariant.4,
      (λ k. passed-skip _ _ _ _ c.slots.at wide _ c.in-Some-next_entry.ensures.0 c.in-Some-next_entry.ensures.1 _ (rw c.slots.invariant.1 at c.in-Ok-None.ensures.value) c.in-Ok-None.field-0-is k c.slots.passed c.add_entry.new.self (rw (c.in-Ok-None.ensures.same, c.slots.invariant.1) at c.add_entry.ensures.skipped) (rw (c.in-Ok-None.ensures.same, c.slots.invariant.1) at c.add_entry.ensures.unmapped) _ _ (c.slots.invariant.5 k)),
    )

pub returns-in-Err-clause-strictly : goal.returns-in-Err-clause-strictly
returns-in-Err-clause-strictly g c = refused-strictly _ _ _ _ (rw c.slots.invariant.1 at c.in-Err.ensures.value).0

pub returns-in_default-next_entry-clause-counted : goal.returns-in_default-next_entry-clause-counted
returns-in_default-next_entry-clause-counted g c =
    rw c.spend.ensures
    (refused-one c.args.steps.now c.slots.steps _ _ (c.are_out.ensures.no c.if-are_out.false) c.slots.invariant.4 c.slots.invariant.2)

pub returns-in-Err-clause-counted : goal.returns-in-Err-clause-counted
returns-in-Err-clause-counted g c =
    rw c.spend-in-slots.ensures
    (refused-one c.args.steps.now c.slots.steps _ _ (c.are_out.ensures.no c.if-are_out.false) c.slots.invariant.4 c.slots.invariant.2)
