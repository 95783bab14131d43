use Rattle.std.proofs.Common.{◌≤◌, ◌∙◌, arith, sym}
use Rattle.goblin_pe_import.specs.ImportEntries.{entry_slots}
use Rattle.goblin_pe_import.proofs.added.TestedPieces.{cause-on, missing-here, read-here, read-on}
use Rattle.readings.proofs.Walks.{stop-next}
use Rattle.goblin_pe_import.proofs.added.tested.test_slots.Goals as goal

pub returns-in-Err : goal.returns-in-Err
returns-in-Err g c =
    let f = g.T.Bitfield.format in
    let h = c.slots.invariant in
    let wide : 1 ≤ f.width = omega (arith, c.size_of-size.ensures.width, c.size_of-size.ensures.positive) in
    let here = missing-here f c.args.bytes.now c.slots.place wide c.in-Err.error c.in-Err.ensures.0 c.in-Err.ensures.1 in
    (h.2 ∙ here.0, h.3 c.in-Err.error here.1, omega (arith, h.1, here.2, c.slots-test.true))

pub returns-then-is_zero : goal.returns-then-is_zero
returns-then-is_zero g c =
    let f = g.T.Bitfield.format in
    let h = c.slots.invariant in
    let wide : 1 ≤ f.width = omega (arith, c.size_of-size.ensures.width, c.size_of-size.ensures.positive) in
    let here = read-here f c.args.bytes.now c.slots.place wide _ c.in-Ok.ensures (sym c.is_zero.ensures ∙ c.if-is_zero.true) in
    (h.2 ∙ here.0, omega (arith, h.1, here.1, c.slots-test.true))

pub slots-preserved : goal.slots-preserved
slots-preserved g c =
    let f = g.T.Bitfield.format in
    let h = c.slots.invariant in
    let wide : 1 ≤ f.width = omega (arith, c.size_of-size.ensures.width, c.size_of-size.ensures.positive) in
    let z = sym c.is_zero.ensures ∙ c.if-is_zero.false in
    let next = stop-next (entry_slots f) c.args.bytes.now c.slots.place wide _ c.in-Ok.ensures z in
    rw c.size_of-size.ensures.width (
      omega (arith, c.slots-test.true),
      omega (arith, h.1, next),
      h.2 ∙ read-on f c.args.bytes.now c.slots.place wide _ c.in-Ok.ensures z,
      λ e fault. h.3 e (cause-on f c.args.bytes.now c.slots.place wide _ c.in-Ok.ensures z e fault),
    )
