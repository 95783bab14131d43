use Rattle.std.proofs.Common.{Some, sym, ◌∙◌, refl}
use Rattle.std.proofs.lemmas.Result.{err_from_is_err_and}
use Rattle.readings.proofs.Loops.{read-end, read-missing, read-next}
use Rattle.goblin_pe_import.specs.LookupReadings.{entry_value_at}
use Rattle.goblin_pe_import.proofs.import.address_table.address_table.Goals as goal

pub returns-in_err-entry : goal.returns-in_err-entry
returns-in_err-entry g c =
    let e = err_from_is_err_and c.from_residual.result c.from_residual.ensures.1 in
    rw (e.1, e.2) (λ _. read-missing _ _ _ _ _ _ _ c.slots.invariant _ (entry_value_at g.T.Bitfield.format) _ c.in_err-entry.ensures.0 refl c.in_err-entry.ensures.1)

pub returns-then-is_zero : goal.returns-then-is_zero
returns-then-is_zero g c =
    rw (c.from.ensures) (read-end _ _ _ _ _ _ _ c.slots.invariant _ (entry_value_at g.T.Bitfield.format) (Some _) c.in_ok-entry.ensures (sym c.is_zero.ensures ∙ c.if-is_zero.true) refl)

pub slots-preserved : goal.slots-preserved
slots-preserved g c =
    let next = read-next _ _ _ _ _ _ _ c.slots.invariant _ _ c.in_ok-entry.ensures (sym c.is_zero.ensures ∙ c.if-is_zero.false) refl in
    rw (c.in_ok-push.ensures.items, c.size_of-size.ensures.width, c.number.ensures) next
