use Rattle.std.proofs.Common.{◌∙◌, Result, Some, ap, is_some, not, subst, sym}
use Rattle.goblin_base.specs.declared.error.ErrorOf.{ErrorOf}
use Rattle.goblin_pe_import.specs.declared.added.imports.ImportCursor.{ImportCursor}
use Rattle.goblin_pe_import.specs.declared.added.library_walk.WalkedLibrary.{WalkedLibrary}
use Rattle.goblin_pe.specs.added.Layouts.{layout_map, layout_places}
use Rattle.goblin_pe_import.specs.added.Libraries.{GivesLibraryWithin, library_value}
use Rattle.goblin_pe_sect.specs.Addresses.{MapOfAddresses, map_of}
use Rattle.goblin_pe_c_tables.specs.{Libraries.library_for_c, Batches.cursor_for_c}
use Rattle.goblin_pe_c_tables.proofs.LibraryBatches.{libraries-cut, libraries-end, libraries-full, libraries-more, libraries-refused, libraries-start}
use Rattle.goblin_pe_c_tables.proofs.library.fill_libraries.Goals as goal

pub libraries-init : goal.libraries-init
libraries-init c =
    let l = c.args.layout.now in
    (libraries-start (layout_map l) (layout_places l) l.bytes.now c.args.steps c.args.libraries c.args.position.now c.args.records.now c.requires.at c.requires.over c.passed-passed.result (sym c.passed-passed.ensures) (c.passed-passed.ensures ∙ c.requires.fresh), c.finder-finder.ensures)

pub libraries-preserved : goal.libraries-preserved
libraries-preserved c =
    let is = subst (λ (r : Result WalkedLibrary ErrorOf). GivesLibraryWithin c.libraries.libraries (Some c.libraries.left) (Some r) c.next_within.new.self c.next_within.new.steps) c.in-Some-Ok.field-0-is c.in-Some-Ok.ensures in
    let map_is = c.libraries.invariant.1 in
    let same = c.library_record.ensures.value ∙ ap (λ (m : MapOfAddresses). library_for_c m (library_value c.in-Some-Ok.library)) map_is in (
      libraries-more c.libraries.invariant.0 c.in-Some-Ok.library c.next_within.new.self c.cursor_for_c.result c.next_within.new.steps c.unwrap_or-left.result c.library_record.result is c.unwrap_or-left.ensures (c.cursor_for_c.ensures ∙ ap cursor_for_c c.cursor.ensures.is) c.libraries-test.true same c.passed-passed-in-Some-Ok.result c.passed-passed-in-Some-Ok.ensures,
      ap map_of c.library_record.ensures.same ∙ map_is,
    )

pub returns-in-Some-Err-2 : goal.returns-in-Some-Err-2
returns-in-Some-Err-2 c =
    let is = subst (λ (r : Result WalkedLibrary ErrorOf). GivesLibraryWithin c.libraries.libraries (Some c.libraries.left) (Some r) c.next_within.new.self c.next_within.new.steps) c.in-Some-Err.field-0-is c.in-Some-Err.ensures in
    rw c.passed_batch.ensures (libraries-refused c.libraries.invariant.0 c.in-Some-Err.error c.next_within.new.self c.next_within.new.steps is c.if-count-eq0.false)

pub returns-then-is_none : goal.returns-then-is_none
returns-then-is_none c =
    let ends = ap (λ (at : ImportCursor). is_some at.next_record) (sym c.cursor-at.ensures.is) ∙ c.is_none.ensures ∙ ap not c.if-is_none.true in
    rw (c.passed_batch-then-is_none.ensures, c.passed.ensures) (libraries-end c.libraries.invariant.0 c.next_within.new.self c.next_within.new.steps c.in-None.ensures c.libraries-test.true c.unwrap_or-left-in-None.result c.unwrap_or-left-in-None.ensures
    c.cursor_for_c-then-is_none.result ends (c.cursor_for_c-then-is_none.ensures ∙ ap cursor_for_c c.end.ensures))

pub returns-in-None : goal.returns-in-None
returns-in-None c =
    let goes = ap (λ (at : ImportCursor). is_some at.next_record) (sym c.cursor-at.ensures.is) ∙ c.is_none.ensures ∙ ap not c.if-is_none.false in
    rw (c.passed_batch-in-None.ensures, c.passed-in-None.ensures) (libraries-cut c.libraries.invariant.0 c.next_within.new.self c.next_within.new.steps c.in-None.ensures c.libraries-test.true c.unwrap_or-left-in-None.result c.unwrap_or-left-in-None.ensures
    c.cursor_for_c-in-None.result goes (c.cursor_for_c-in-None.ensures ∙ ap cursor_for_c c.cursor-at.ensures.is))

pub returns : goal.returns
returns c =
    rw c.passed_batch-2.ensures (libraries-full c.libraries.invariant.0 c.libraries-test.false)
