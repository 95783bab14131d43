use Rattle.std.proofs.Common.{Some, arith, refl}
use Rattle.goblin_base.specs.declared.endian.Endian.TheVariants.{Little}
use Rattle.goblin_base.specs.declared.error.ErrorOf.TheVariants.{Malformed}
use Rattle.goblin_base.specs.declared.error.CauseOf.TheVariants.{ImportRecordEnd}
use Rattle.goblin_pe_import.specs.ImportRecords.{address_table_rva, import_record}
use Rattle.goblin_base.proofs.Records.{record_at-some}
use Rattle.goblin_pe_import.proofs.added.ImportsWalk.{bound-given, entered, later-end, later-given, later-missing, later-none, later-piece, later-refused, later-unnamed, piece-end, piece-on, walk-left_out}
use Rattle.goblin_pe_import.proofs.added.StepsAhead.{later-few, library-counted, library-piece, library-skipped, steps-entered, steps-left_out, steps-piece}
use Rattle.goblin_pe_import.proofs.added.TestedPieces.{some-of}
use Rattle.goblin_pe_import.proofs.added.PassedLibraries.{records-end, records-enter, records-piece, records-skip}
use Rattle.goblin_pe_import.proofs.Modes.{ends, lacks_end}
use Rattle.goblin_pe_import.proofs.added.imports.Walk.next_library.Goals as goal

pub returns-in-Some-Ok-None-clause-gives : goal.returns-in-Some-Ok-None-clause-gives
returns-in-Some-Ok-None-clause-gives g c =
    let t = rw (c.in-Some-Ok-None.field-0-is, c.in-Some-Ok-None.field-0-0-is) at c.in-Some-Ok-None.ensures.tests in
    let at = some-of c.args.self.now.at.pending t.1 in
    rw c.test_pending.ensures.same (piece-end g.T.Bitfield.format c.args.self.now at.0 t.0 at.1 at.2.0)

pub returns-in-Some-Ok-Some-clause-gives : goal.returns-in-Some-Ok-Some-clause-gives
returns-in-Some-Ok-Some-clause-gives g c =
    let t = rw (c.in-Some-Ok-Some.field-0-is, c.in-Some-Ok-Some.field-0-0-is) at c.in-Some-Ok-Some.ensures.tests in
    let at = some-of c.args.self.now.at.pending t.1 in
    rw c.test_pending.ensures.same (piece-on g.T.Bitfield.format c.args.self.now at.0 t.0 at.1 c.in-Some-Ok-Some.place at.2.0 at.2.1)

pub returns-in-Some-Err-clause-gives : goal.returns-in-Some-Err-clause-gives
returns-in-Some-Err-clause-gives g c =
    let t = rw c.in-Some-Err.field-0-is at c.in-Some-Err.ensures.tests in
    let at = some-of c.args.self.now.at.pending t.1 in
    later-refused g.T.Bitfield.format c.args.self.now c.in-Some-Err.error (rw (at.1, t.0) (at.2.0, at.2.1)) t.0

pub returns-in_default-clause-gives : goal.returns-in_default-clause-gives
returns-in_default-clause-gives g c =
    later-none g.T.Bitfield.format c.args.self.now c.in-None.ensures.tests.0 c.in_default.is

pub returns-then-may_end-clause-gives : goal.returns-then-may_end-clause-gives
returns-then-may_end-clause-gives g c =
    let may = ends _ _ (import_record Little) _ (rw (c.reads_strictly.ensures, c.test_pending.ensures.same) at c.may_end.ensures) c.if-may_end.true in
    later-end g.T.Bitfield.format c.args.self.now c.in-None.ensures.tests.0 c.test_pending.ensures.wide c.in-Some.offset c.in-Some.is _ refl c.in_default-next_record.ensures may

pub returns-then-may_end-clause-counted : goal.returns-then-may_end-clause-counted
returns-then-may_end-clause-counted g c =
    rw c.in-Some.is (later-few g.T.Bitfield.format c.args.self.now c.in-Some.offset c.args.self.now.at.tested c.args.self.now.at.pending _ refl c.in_default-next_record.ensures c.in-None.ensures.tests.1)

pub returns-then-may_end-clause-passed : goal.returns-then-may_end-clause-passed
returns-then-may_end-clause-passed g c k =
    rw c.in-Some.is
    (records-end _ _ _ _ c.in-Some.offset _ _ refl c.in_default-next_record.ensures c.args.self.now.passed c.add_end.new.self c.add_end.ensures.skipped c.add_end.ensures.unmapped k)

pub returns-in_default-next_record-clause-gives : goal.returns-in_default-next_record-clause-gives
returns-in_default-next_record-clause-gives g c =
    let lacks = lacks_end _ _ (import_record Little) _ (rw (c.reads_strictly.ensures, c.test_pending.ensures.same) at c.may_end.ensures) c.if-may_end.false in
    later-missing g.T.Bitfield.format c.args.self.now c.in-None.ensures.tests.0 c.test_pending.ensures.wide c.in-Some.offset c.in-Some.is (Malformed (ImportRecordEnd c.in-Some.offset)) lacks.1 lacks.0 refl

pub returns-in-Ok-Some-clause-gives : goal.returns-in-Ok-Some-clause-gives
returns-in-Ok-Some-clause-gives g c =
    let t = rw (c.in-Ok-Some.field-0-is, c.test_pending.ensures.same) at c.in-Ok-Some.ensures.tests in
    rw (c.test_first.ensures.same, c.test_pending.ensures.same)
    (later-piece g.T.Bitfield.format c.args.self.now c.in-None.ensures.tests.0 c.test_pending.ensures.wide c.in-Some.offset c.in-Some.is c.in-Some-next_record.«record» c.in-Some-next_record.ensures.0 c.in-Some-next_record.ensures.1 c.in-Ok-Some.place t.0 t.1)

pub returns-in-Ok-Some-clause-counted : goal.returns-in-Ok-Some-clause-counted
returns-in-Ok-Some-clause-counted g c =
    let t = rw (c.in-Ok-Some.field-0-is, c.test_pending.ensures.same) at c.in-Ok-Some.ensures.tests in
    rw (c.test_first.ensures.same, c.test_pending.ensures.same, c.in-Some.is)
    (library-piece g.T.Bitfield.format c.args.self.now c.in-Some.offset c.args.self.now.at.tested c.args.self.now.at.pending c.in-Some-next_record.«record» c.in-Some-next_record.ensures.0 c.in-Some-next_record.ensures.1 c.in-None.ensures.tests.1 c.in-Ok-Some.place t.0 (steps-piece _ _ _ _ _ c.in-Some-next_record.«record» c.in-Ok-Some.place t.0 t.1 t.2))

pub returns-in-Ok-Some-clause-passed : goal.returns-in-Ok-Some-clause-passed
returns-in-Ok-Some-clause-passed g c k =
    let t = rw (c.in-Ok-Some.field-0-is, c.test_pending.ensures.same) at c.in-Ok-Some.ensures.tests in
    rw (c.test_first.ensures.same, c.test_pending.ensures.same, c.in-Some.is)
    (records-piece _ _ _ _ c.in-Some.offset _ c.in-Some-next_record.«record» c.in-Some-next_record.ensures.0 c.in-Some-next_record.ensures.1 c.in-Ok-Some.place t.0 t.1 _ k)

pub returns-in-Err-clause-gives : goal.returns-in-Err-clause-gives
returns-in-Err-clause-gives g c =
    let t = rw c.test_pending.ensures.same at c.in-Err.ensures.tests in
    rw (c.test_first.ensures.same, c.test_pending.ensures.same)
    (later-given g.T.Bitfield.format c.args.self.now c.in-None.ensures.tests.0 c.test_pending.ensures.wide c.in-Some.offset c.in-Some.is c.in-Some-next_record.«record» c.in-Some-next_record.ensures.0 c.in-Some-next_record.ensures.1 _ _ (walk-left_out _ _ _ _ _ _ _ _ _ t.1 _ _ _ _))

pub returns-in-Err-clause-counted : goal.returns-in-Err-clause-counted
returns-in-Err-clause-counted g c =
    let t = rw c.test_pending.ensures.same at c.in-Err.ensures.tests in
    rw (c.test_first.ensures.same, c.test_pending.ensures.same, c.in-Some.is)
    (library-skipped g.T.Bitfield.format c.args.self.now c.in-Some.offset c.args.self.now.at.tested c.args.self.now.at.pending c.in-Some-next_record.«record» c.in-Some-next_record.ensures.0 c.in-Some-next_record.ensures.1 c.in-None.ensures.tests.1 (steps-left_out _ _ _ _ _ _ t.0 t.1 t.2))

pub returns-in-Err-clause-passed : goal.returns-in-Err-clause-passed
returns-in-Err-clause-passed g c k =
    let t = rw c.test_pending.ensures.same at c.in-Err.ensures.tests in
    rw (c.test_first.ensures.same, c.test_pending.ensures.same, c.in-Some.is)
    (records-skip _ _ _ _ c.in-Some.offset _ c.in-Some-next_record.«record» c.in-Some-next_record.ensures.0 c.in-Some-next_record.ensures.1 t.1 _ _ c.add_library.ensures.skipped c.add_library.ensures.unmapped k)

pub returns-in-Err-library_name-clause-gives : goal.returns-in-Err-library_name-clause-gives
returns-in-Err-library_name-clause-gives g c =
    let refused = rw (c.test_first.ensures.same, c.test_pending.ensures.same) at c.in-Err-library_name.ensures.value in
    later-unnamed g.T.Bitfield.format c.args.self.now c.in-None.ensures.tests.0 c.test_pending.ensures.wide c.in-Some.offset c.in-Some.is c.in-Some-next_record.«record» c.in-Some-next_record.ensures.0 c.in-Some-next_record.ensures.1 c.in-Err-library_name.error refused.0 refused.1

pub returns-clause-gives : goal.returns-clause-gives
returns-clause-gives g c =
    let t = rw (c.in-Ok-None.field-0-is, c.test_pending.ensures.same) at c.in-Ok-None.ensures.tests in
    let named = rw (c.test_first.ensures.same, c.test_pending.ensures.same) at c.in-Ok.ensures.value in
    rw (c.unwrap_or.ensures, c.lookup_offset-place.ensures.value, c.lookup_offset-place.ensures.same, c.library_name.ensures.same, c.test_first.ensures.same, c.test_pending.ensures.same, c.address_table_rva.ensures, c.record_index.ensures)
    (later-given g.T.Bitfield.format c.args.self.now c.in-None.ensures.tests.0 c.test_pending.ensures.wide c.in-Some.offset c.in-Some.is c.in-Some-next_record.«record» c.in-Some-next_record.ensures.0 c.in-Some-next_record.ensures.1 _ _ (entered _ _ _ _ _ _ _ _ _ _ named t.0))

pub returns-clause-bound : goal.returns-clause-bound
returns-clause-bound g c =
    let fits = bound-given c.args.self.now.bytes.now c.in-Some.offset c.lookup_offset-place.result (Some c.address_table_rva.result) (record_at-some 20 _ _ _ _ c.in-Some-next_record.ensures.0).end in
    rw c.in-Some.is (omega (arith, fits))

pub returns-clause-counted : goal.returns-clause-counted
returns-clause-counted g c =
    let t = rw (c.in-Ok-None.field-0-is, c.test_pending.ensures.same) at c.in-Ok-None.ensures.tests in
    rw (c.lookup_offset-place.ensures.value, c.lookup_offset-place.ensures.same, c.library_name.ensures.same, c.test_first.ensures.same, c.test_pending.ensures.same, c.address_table_rva.ensures, c.in-Some.is)
    (library-counted g.T.Bitfield.format c.args.self.now c.in-Some.offset c.args.self.now.at.tested c.args.self.now.at.pending c.in-Some-next_record.«record» c.in-Some-next_record.ensures.0 c.in-Some-next_record.ensures.1 c.in-None.ensures.tests.1 _ (Some (address_table_rva c.in-Some-next_record.«record»)) (steps-entered _ _ _ _ _ _ t.0 t.1))

pub returns-clause-passed : goal.returns-clause-passed
returns-clause-passed g c k =
    let t = rw (c.in-Ok-None.field-0-is, c.test_pending.ensures.same) at c.in-Ok-None.ensures.tests in
    rw (c.lookup_offset-place.ensures.value, c.lookup_offset-place.ensures.same, c.library_name.ensures.same, c.test_first.ensures.same, c.test_pending.ensures.same, c.in-Some.is)
    (records-enter _ _ _ _ c.in-Some.offset _ c.in-Some-next_record.«record» c.in-Some-next_record.ensures.0 c.in-Some-next_record.ensures.1 t.0 _ k)
