use Rattle.std.proofs.Common.{Some, false, true, refl}
use Rattle.goblin_base.specs.declared.endian.Endian.TheVariants.{Little}
use Rattle.goblin_base.specs.declared.error.ErrorOf.TheVariants.{Malformed}
use Rattle.goblin_base.specs.declared.error.CauseOf.TheVariants.{ImportRecordEnd}
use Rattle.goblin_pe_import.specs.ImportRecords.{import_record}
use Rattle.goblin_pe_import.proofs.Modes.{ends, lacks_end}
use Rattle.goblin_pe_import.proofs.added.LibrariesWalk.{moves-end, moves-given, moves-missing, moves-none, moves-piece, steps-given, steps-piece}
use Rattle.goblin_pe_import.proofs.added.TestedPieces.{is-missing, is-there, none-same}
use Rattle.goblin_pe_import.proofs.added.library_walk.Libraries.look.Goals as goal

pub returns-in_default-clause-moves : goal.returns-in_default-clause-moves
returns-in_default-clause-moves c =
    moves-none c.args.self.now c.args.steps.now c.in_default.is _ (rw c.end-self.ensures refl)

pub returns-then-may_end-clause-moves : goal.returns-then-may_end-clause-moves
returns-then-may_end-clause-moves c =
    let may = ends _ _ (import_record Little) _ (rw c.reads_strictly.ensures at c.may_end.ensures) c.if-may_end.true in
    moves-end c.args.self.now c.args.steps.now c.in-Some.offset c.in-Some.is _ refl c.in_default-next_record.ensures may c.add_end.new.self
    c.add_end.ensures.skipped c.add_end.ensures.unmapped _ (rw c.end-self-in_default-next_record.ensures refl)

pub returns-in_default-next_record-clause-moves : goal.returns-in_default-next_record-clause-moves
returns-in_default-next_record-clause-moves c =
    let lacks = lacks_end _ _ (import_record Little) _ (rw c.reads_strictly.ensures at c.may_end.ensures) c.if-may_end.false in
    rw c.spend.ensures
    (moves-missing c.args.self.now c.args.steps.now c.in-Some.offset c.in-Some.is (c.are_out.ensures.no c.if-are_out.false)
    (Malformed (ImportRecordEnd c.in-Some.offset)) lacks.1 lacks.0 refl (λ memory. memory) _
    (rw c.end-self-in_default-next_record.ensures refl))

pub returns-in-Ok-Some-clause-moves : goal.returns-in-Ok-Some-clause-moves
returns-in-Ok-Some-clause-moves c =
    let t = rw c.in-Ok-Some.field-0-is at c.in-Ok-Some.ensures.tests in
    rw c.spend-2.ensures
    (moves-piece c.args.self.now c.args.steps.now c.in-Some.offset c.in-Some.is (c.are_out.ensures.no c.if-are_out.false)
    c.in-Some-next_record.«record» c.in-Some-next_record.ensures.0 c.in-Some-next_record.ensures.1 c.in-Ok-Some.place (none-same _ _ t.0) t.2 _
    (rw (c.at_record.ensures.is, c.in-Ok-Some.ensures.same) refl))

pub returns-in-Ok-Some-clause-less : goal.returns-in-Ok-Some-clause-less
returns-in-Ok-Some-clause-less c =
    let t = rw c.in-Ok-Some.field-0-is at c.in-Ok-Some.ensures.tests in
    steps-piece c.args.self.now c.args.steps.now c.in-Some.offset c.in-Some.is (c.are_out.ensures.no c.if-are_out.false)
    c.in-Some-next_record.«record» c.in-Some-next_record.ensures.0 c.in-Some-next_record.ensures.1 c.in-Ok-Some.place t.2
    (record c.test_piece.new.self { at = record c.at_record.result { tested = Some c.in-Ok-Some.place } })
    (rw (c.at_record.ensures.is, c.in-Ok-Some.ensures.same) refl)

pub returns-in-Ok-None-clause-moves : goal.returns-in-Ok-None-clause-moves
returns-in-Ok-None-clause-moves c =
    let t = rw c.in-Ok-None.field-0-is at c.in-Ok-None.ensures.tests in
    let same = c.in-Ok-None.ensures.same in
    rw c.spend-2.ensures
    (moves-given c.args.self.now c.args.steps.now c.in-Some.offset c.in-Some.is (c.are_out.ensures.no c.if-are_out.false)
    c.in-Some-next_record.«record» c.in-Some-next_record.ensures.0 c.in-Some-next_record.ensures.1 false (is-there _ t.0) t.1 c.pass.new.self.passed
    c.pass.new.self (rw same at c.pass.ensures.moved) c.pass.result (rw same at c.pass.ensures.value)
    (rw same at c.pass.ensures.skipped) (rw same at c.pass.ensures.unmapped))

pub returns-in-Ok-None-clause-less : goal.returns-in-Ok-None-clause-less
returns-in-Ok-None-clause-less c =
    let t = rw c.in-Ok-None.field-0-is at c.in-Ok-None.ensures.tests in
    let same = c.in-Ok-None.ensures.same in
    steps-given c.args.self.now c.args.steps.now c.in-Some.offset c.in-Some.is (c.are_out.ensures.no c.if-are_out.false)
    c.in-Some-next_record.«record» c.in-Some-next_record.ensures.0 c.in-Some-next_record.ensures.1 false (is-there _ t.0) t.1 c.pass.new.self.passed
    c.pass.new.self (rw same at c.pass.ensures.moved)

pub returns-in-Err-clause-moves : goal.returns-in-Err-clause-moves
returns-in-Err-clause-moves c =
    let t = c.in-Err.ensures.tests in
    let same = c.in-Err.ensures.same in
    rw c.spend-2.ensures
    (moves-given c.args.self.now c.args.steps.now c.in-Some.offset c.in-Some.is (c.are_out.ensures.no c.if-are_out.false)
    c.in-Some-next_record.«record» c.in-Some-next_record.ensures.0 c.in-Some-next_record.ensures.1 true (is-missing _ t.0) t.2 c.pass-in-Err.new.self.passed
    c.pass-in-Err.new.self (rw same at c.pass-in-Err.ensures.moved) c.pass-in-Err.result (rw same at c.pass-in-Err.ensures.value)
    (rw same at c.pass-in-Err.ensures.skipped) (rw same at c.pass-in-Err.ensures.unmapped))

pub returns-in-Err-clause-less : goal.returns-in-Err-clause-less
returns-in-Err-clause-less c =
    let t = c.in-Err.ensures.tests in
    let same = c.in-Err.ensures.same in
    steps-given c.args.self.now c.args.steps.now c.in-Some.offset c.in-Some.is (c.are_out.ensures.no c.if-are_out.false)
    c.in-Some-next_record.«record» c.in-Some-next_record.ensures.0 c.in-Some-next_record.ensures.1 true (is-missing _ t.0) t.2 c.pass-in-Err.new.self.passed
    c.pass-in-Err.new.self (rw same at c.pass-in-Err.ensures.moved)
