use Rattle.std.proofs.{Common.ap, Common.option_map, lemmas.Result.err_from_is_err_and}
use Rattle.goblin_pe_import.specs.ImportReadings.{lookup_if}
use Rattle.goblin_pe_import.proofs.import.library.lookup_table_if.Goals as goal

pub returns-in_err-table : goal.returns-in_err-table
unfolding lookup_if
returns-in_err-table g c =
    let e = err_from_is_err_and c.from_residual.result c.from_residual.ensures.1 in
    rw (e.1, e.2, c.in-Some.is) (λ other. let refused = c.in_err-table.ensures.value other in (ap (option_map _) refused.0, refused.1))
