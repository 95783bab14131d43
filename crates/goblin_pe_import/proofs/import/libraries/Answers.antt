use Rattle.std.proofs.{Common.refl, lemmas.Result.err_from_is_err_and}
use Rattle.goblin_base.specs.declared.endian.Endian.TheVariants.{Little}
use Rattle.goblin_base.specs.declared.error.ErrorOf.TheVariants.{Malformed}
use Rattle.goblin_base.specs.declared.error.CauseOf.TheVariants.{ImportRecordEnd}
use Rattle.goblin_base.proofs.Steps.{mapped, unmapped}
use Rattle.readings.proofs.Loops.{read-end, read-missing, read-next, read-refused}
use Rattle.goblin_pe_import.specs.{ImportReadings.import_record_at, ImportRecords.import_record}
use Rattle.goblin_pe_import.proofs.Modes.{ends, lacks_end}
use Rattle.goblin_pe_import.proofs.import.libraries.Goals as goal

pub returns-in_err-add_library-clause-value : goal.returns-in_err-add_library-clause-value
returns-in_err-add_library-clause-value g c =
    let e = err_from_is_err_and c.from_residual.result c.from_residual.ensures.1 in
    rw (e.1, e.2) (λ memory.
    let refused = c.in_err-add_library.ensures.value memory in
    read-refused _ _ _ _ _ _ _ c.records.invariant _ import_record_at _ _ c.in-Some.ensures.0 c.in-Some.ensures.1 (unmapped _ _ refused.0, refused.1))

pub records-preserved : goal.records-preserved
records-preserved g c =
    let m = mapped _ _ _ c.in_ok-add_library.ensures.value in
    rw (← m.made) (read-next _ _ _ _ _ _ _ c.records.invariant _ _ c.in-Some.ensures.0 c.in-Some.ensures.1 m.is)

pub returns-then-may_end-clause-value : goal.returns-then-may_end-clause-value
returns-then-may_end-clause-value g c =
    read-end _ _ _ _ _ _ _ c.records.invariant _ import_record_at _ refl c.in_default.ensures
    (ends _ _ (import_record Little) _ (rw c.reads_strictly.ensures at c.may_end.ensures) c.if-may_end.true)

pub returns-clause-value : goal.returns-clause-value
returns-clause-value g c = λ _.
    let lacks = lacks_end _ _ (import_record Little) _ (rw c.reads_strictly.ensures at c.may_end.ensures) c.if-may_end.false in
    read-missing _ _ _ _ _ _ _ c.records.invariant _ import_record_at (Malformed (ImportRecordEnd c.records.place)) lacks.1 lacks.0 refl
