use Rattle.std.proofs.Common.{◌<◌, length, map, sym, arith, refl}
use Rattle.std.proofs.{lemmas.List.length-map, lemmas.Result.err_from_is_err_and}
use Rattle.goblin_pe_import.specs.ImportLookup.{entry_model}
use Rattle.goblin_pe_import.proofs.Imports.{entry-next, entry-read, entry-refused, entry-end, slot-read}
use Rattle.goblin_pe_import.proofs.import.listed.push_entries.Goals as goal

pub returns-in_default : goal.returns-in_default
returns-in_default c =
    let within : c.entries.position < length (map entry_model c.args.entries.now) = omega (arith, length-map c.args.entries.now entry_model, c.entries-test.true) in
    let in_slot = slot-read c.args.slots.now c.entries.position (omega (arith, c.requires, c.entries-test.true)) in
    λ _. (entry-refused _ _ _ _ _ c.entries.position _ _ within in_slot (sym c.in_default.ensures), tt)

pub returns-in_err-push_entry : goal.returns-in_err-push_entry
returns-in_err-push_entry c =
    let e = err_from_is_err_and c.from_residual.result c.from_residual.ensures.1 in
    rw (e.1, e.2) (λ other. absurd (other c.in_err-push_entry.ensures.refused))

pub entries-preserved : goal.entries-preserved
entries-preserved c =
    let in_slot = slot-read c.args.slots.now c.entries.position (omega (arith, c.requires, c.entries-test.true)) in
    let next = entry-next _ _ _ _ _ _ _ _ _ _ _ _ c.entries.invariant (entry-read entry_model _ _ _ c.entries-test.true) in_slot c.in-Some.ensures refl in
    rw c.in_ok-push_entry.ensures.added next

pub returns : goal.returns
returns c =
    entry-end _ _ _ _ _ _ _ _ c.entries.invariant (omega (arith, length-map c.args.entries.now entry_model, c.entries-test.false, c.entries.auto.position-end))
