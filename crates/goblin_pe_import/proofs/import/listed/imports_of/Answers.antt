use Rattle.std.proofs.Common.{ap, sym, ◌∙◌, Some, inr}
use Rattle.std.proofs.{lemmas.Option.slice_get-get_or, lemmas.Result.err_from_is_err_and}
use Rattle.goblin_pe_import.proofs.Imports.{library-next, library-refused, slots-refused, slots-there}
use Rattle.goblin_pe_import.proofs.import.listed.imports_of.Goals as goal

pub returns-in-Some : goal.returns-in-Some
returns-in-Some c =
    λ _. slots-refused _ _ _ _ _ (sym c.in-Some.ensures) c.kept_entries-entries.ensures.count c.slot_count-slots.ensures

pub push_imports-requires : goal.push_imports-requires
push_imports-requires c =
    let here = slice_get-get_or _ _ _ c.libraries-test.true ∙ ap Some (sym c.library-item.is) in
    slots-there c.args.libraries.now c.libraries.library-index c.library-item.result (sym c.in_default.ensures) here

pub returns-in_err-push_imports : goal.returns-in_err-push_imports
returns-in_err-push_imports c =
    let e = err_from_is_err_and c.from_residual-in_err-push_imports.result c.from_residual-in_err-push_imports.ensures.1 in
    let here = slice_get-get_or _ _ _ c.libraries-test.true ∙ ap Some (sym c.library-item.is) in
    rw (e.1, e.2) (λ memory.
    let refused = c.in_err-push_imports.ensures memory in
    (library-refused _ _ _ _ _ here refused.0, inr (sym c.in_default.ensures, refused.1)))

pub libraries-preserved : goal.libraries-preserved
libraries-preserved c =
    let here = slice_get-get_or _ _ _ c.libraries-test.true ∙ ap Some (sym c.library-item.is) in
    library-next _ c.args.libraries.now c.libraries.library-index _ _ _ c.libraries.invariant here c.in_ok-push_imports.ensures
