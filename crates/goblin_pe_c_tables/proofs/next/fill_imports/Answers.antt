use Rattle.std.proofs.Common.{◌∙◌, Some, Result, ap, subst, sym}
use Rattle.goblin_base.specs.declared.error.ErrorOf.{ErrorOf}
use Rattle.goblin_pe_import.specs.declared.added.imports.WalkedImport.{WalkedImport}
use Rattle.goblin_pe.specs.added.Layouts.{GivesFileWithin, layout_map, layout_places}
use Rattle.goblin_pe_c_tables.proofs.ImportBatches.{goes-at, imports-end, imports-full, imports-refused, library-given, library-more}
use Rattle.goblin_pe_c_tables.specs.Batches.{is_over}
use Rattle.goblin_pe_c_tables.proofs.next.fill_imports.Goals as goal

pub imports-preserved : goal.imports-preserved
imports-preserved c =
    let l = c.args.layout.now in
    let m = layout_map l in
    let places = layout_places l in
    let bytes = l.bytes.now in
    let now = c.imports.imports in
    let next = c.next_within.new.self in
    let last = c.fill_library-count.new.imports in
    let x = c.in-Some-Ok.import in
    let is = subst (λ (r : Result WalkedImport ErrorOf). GivesFileWithin now (Some c.imports.left) (Some r) next c.next_within.new.steps) c.in-Some-Ok.field-0-is c.in-Some-Ok.ensures in
    let kept = is.walk m places.magic bytes c.imports.invariant.goes.walk in
    let filled = c.fill_library-count.ensures in
    let there = (library-given next last _ filled.filled).kept m places.magic bytes kept in
    let goes = goes-at m places bytes c.cursor_for_c.result c.cursor.result last there (c.cursor.ensures.left m places.magic bytes there) (sym c.cursor.ensures.is) c.cursor_for_c.ensures in
    rw c.passed-passed-in-Some-Ok.ensures
    (library-more c.imports.invariant x next last c.cursor_for_c.result c.next_within.new.steps c.unwrap_or-left.result c.fill_library-count.new.left c.put_import.new.place c.fill_library-count.new.records c.fill_library-count.result
    c.longest_in-longest.result c.longest_in-longest.ensures is c.unwrap_or-left.ensures c.imports-test.true c.put_import.ensures filled.filled filled.counted goes)

pub returns-in-Some-Err-2 : goal.returns-in-Some-Err-2
returns-in-Some-Err-2 c =
    let now = c.imports.imports in
    let next = c.next_within.new.self in
    let is = subst (λ (r : Result WalkedImport ErrorOf). GivesFileWithin now (Some c.imports.left) (Some r) next c.next_within.new.steps) c.in-Some-Err.field-0-is c.in-Some-Err.ensures in
    rw c.passed_batch.ensures (imports-refused c.imports.invariant c.in-Some-Err.error next c.next_within.new.steps is c.if-count-eq0.false)

pub returns-in-None : goal.returns-in-None
returns-in-None c =
    let l = c.args.layout.now in
    let m = layout_map l in
    let places = layout_places l in
    let now = c.imports.imports in
    let next = c.next_within.new.self in
    let given = c.in-None.ensures in
    let kept = given.walk m places.magic l.bytes.now c.imports.invariant.goes.walk in
    let cursor = c.cursor-at in
    let numbers = c.cursor_for_c-in-None in
    let goes = goes-at m places l.bytes.now numbers.result cursor.result next kept (cursor.ensures.left m places.magic l.bytes.now kept) (sym cursor.ensures.is) numbers.ensures in
    rw (c.passed_batch-batch.ensures, c.passed.ensures)
    (imports-end c.imports.invariant next c.next_within.new.steps given numbers.result goes c.imports-test.true c.unwrap_or.result c.unwrap_or.ensures
    c.is_over.result (c.is_over.ensures ∙ ap is_over cursor.ensures.is))

pub returns : goal.returns
returns c =
    rw c.passed_batch-2.ensures (imports-full c.imports.invariant c.imports-test.false)
