use Rattle.std.proofs.Common.{◌≡◌, ◌-◌, ℕ, Ok, Err, arith, refl, sym}
use Rattle.std.proofs.Math.Nat.{mul-zero}
use Rattle.goblin_pe_c_headers.specs.{declared.image.PeImage.PeImage, Places.image_places}
use Rattle.goblin_pe_c_headers.specs.Onward.{batch_at}
use Rattle.goblin_pe_c_tables.specs.Steps.{look_price, looks_for, steps_after}
use Rattle.goblin_pe_c_tables.proofs.InPlaces.{IsAt, fault-at, given-at, nothing-at}
use Rattle.goblin_pe_c_tables.proofs.batch.walk.Goals as goal

-- where no look was made no step is taken
none-spent : (image : PeImage) (steps : ℕ) → steps ≡ steps_after image steps (looks_for image steps)
none-spent image steps =
    let none : looks_for image steps - looks_for image steps ≡ 0 = omega arith in
    rw (none, mul-zero (look_price image)) (omega arith)

pub returns-then-refusal-ne0-clause-given : goal.returns-then-refusal-ne0-clause-given
returns-then-refusal-ne0-clause-given g c =
    let image = c.args.image.now in (
      looks_for image c.args.steps.now,
      none-spent image c.args.steps.now,
      (λ zero. absurd (c.if-refusal-ne0.true zero), λ _. (refl, (refl {a = batch_at c.args.position.now c.args.records.now}, c.ended.ensures))),
    )

pub returns-in-Err-clause-given : goal.returns-in-Err-clause-given
returns-in-Err-clause-given g c =
    let image = c.args.image.now in
    let made = c.in-Err.ensures in (
      looks_for image c.args.steps.now,
      none-spent image c.args.steps.now,
      (
        λ _. (
          Err c.in-Err.error,
          c.fault_of.ensures.value,
          (nothing-at (image_places image) image.bytes.now _ _ made.value, (refl {a = batch_at c.args.position.now c.args.records.now}, c.ended.ensures)),
        ),
        λ refused. absurd (refused c.if-refusal-ne0.false),
      ),
    )

pub returns-in-Ok-next-clause-given : goal.returns-in-Ok-next-clause-given
returns-in-Ok-next-clause-given g c =
    let image = c.args.image.now in
    let made = c.in-Ok.ensures in
    let old = batch_at c.args.position.now c.args.records.now in
    let new = batch_at c.next.new.position c.next.new.records in
    let at : IsAt image.options (image_places image) image.bytes.now c.in-Ok.layout = record { read = made.value; over = made.over; placed = made.placed; mapped = made.mapped } in
    let given = given-at image.options (image_places image) image.bytes.now c.in-Ok.layout at
    (λ m places b. g.T.Batched.gives c.looks_for-left.result c.next.new.steps m places b old new c.in-Ok-next.given) c.in-Ok-next.ensures.filled in
    (c.next.new.steps, c.steps_after.ensures, (λ _. (Ok tt, c.no_fault.ensures, rw (sym c.looks_for-left.ensures) given), λ refused. absurd (refused c.if-refusal-ne0.false)))

pub returns-clause-given : goal.returns-clause-given
returns-clause-given g c =
    let image = c.args.image.now in
    let made = c.in-Ok.ensures in
    let old = batch_at c.args.position.now c.args.records.now in
    let at : IsAt image.options (image_places image) image.bytes.now c.in-Ok.layout = record { read = made.value; over = made.over; placed = made.placed; mapped = made.mapped } in
    let fault = fault-at image.options (image_places image) image.bytes.now c.in-Ok.layout at (λ m places b e. g.T.Batched.is_fault m places b old e) _ c.in-Err-next.ensures.filled.0 in (
      looks_for image c.args.steps.now,
      none-spent image c.args.steps.now,
      (
        λ _. (
          Err c.in-Err-next.error,
          c.fault_of-in-Err-next.ensures.value,
          (fault, (c.in-Err-next.ensures.filled.1, c.ended.ensures)),
        ),
        λ refused. absurd (refused c.if-refusal-ne0.false),
      ),
    )
