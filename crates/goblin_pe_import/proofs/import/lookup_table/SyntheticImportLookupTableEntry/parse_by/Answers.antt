use Rattle.std.proofs.{Common.map, Common.ap, Common.arith, Common.◌∙◌, lemmas.List.length-map}
use Rattle.std.proofs.{lemmas.List.map-append, lemmas.Result.err_from_is_err_and}
use Rattle.goblin_pe_import.specs.ImportLookup.{entry_model}
use Rattle.goblin_pe_import.proofs.LookupWalk.{entries-all, entries-counted, entries-fault, entries-more}
use Rattle.goblin_pe_import.proofs.import.lookup_table.SyntheticImportLookupTableEntry.parse_by.Goals as goal

pub returns-in_err-kept-clause-value : goal.returns-in_err-kept-clause-value
returns-in_err-kept-clause-value g c =
    let e = err_from_is_err_and c.from_residual.result c.from_residual.ensures.1 in
    rw (e.1, e.2, ← c.entries.invariant.1) (λ _. entries-fault _ _ _ _ _ _ _ _ c.entries.invariant.0 _ c.in-Some.ensures.steps _ c.in_err-kept.was)

pub entries-preserved : goal.entries-preserved
entries-preserved g c =
    let more = entries-more _ _ _ _ _ _ _ _ c.entries.invariant.0 _ c.in-Some.ensures.steps _ c.in_ok-kept.was in
    let grown = ap (map entry_model) c.in_ok-push-2.ensures.items ∙ map-append entry_model c.entries.entries.items _ in
    rw (grown, c.in_ok-push.ensures.items, c.size_of-size.ensures.width, c.in-Some.ensures.same) (more, c.entries.invariant.1)

pub returns-clause-value : goal.returns-clause-value
returns-clause-value g c =
    rw (c.from.ensures, ← c.entries.invariant.1) (entries-all _ _ _ _ _ _ _ _ c.entries.invariant.0 c.in_default.ensures.steps)

pub returns-clause-counted : goal.returns-clause-counted
returns-clause-counted g c =
    rw c.from.ensures (omega (arith, length-map c.entries.entries.items entry_model, entries-counted _ _ _ _ _ _ _ _ c.entries.invariant.0))
