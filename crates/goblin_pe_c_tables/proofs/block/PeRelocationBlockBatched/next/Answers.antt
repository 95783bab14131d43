use Rattle.std.proofs.Common.{◌∙◌, ℕ, List, Option, Some, ap, arith, length, unwrap_or}
use Rattle.goblin_pe_sect.specs.BaseRelocations.{relocation_bytes}
use Rattle.goblin_pe_sect.specs.declared.relocation.base.RelocationData.{RelocationData}
use Rattle.goblin_pe.specs.added.Layouts.{layout_map, layout_places}
use Rattle.goblin_pe.specs.{Whole.part_map, declared.whole.Part.Part}
use Rattle.goblin_pe_c_headers.specs.Onward.{batch_at}
use Rattle.goblin_pe_c_tables.proofs.BlockBatches.{blocks-absent, blocks-answered, blocks-skipped, directory-inside, directory-read}
use Rattle.goblin_pe_c_tables.proofs.block.PeRelocationBlockBatched.next.Goals as goal

pub fill_blocks-requires : goal.fill_blocks-requires
fill_blocks-requires c =
    let l = c.args.layout.now in
    let begin = c.unwrap_or-begin.ensures ∙ ap (λ (o : Option ℕ). unwrap_or o 0) c.placed_relocations-offset.ensures.offset in
    let read = directory-read (layout_map l) (layout_places l) l.bytes.now _ _ c.in_ok-relocations.was c.placed_relocations-offset.ensures.value in
    let inside = directory-inside (layout_map l) l.bytes.now (relocation_bytes c.in-Read.relocations) (layout_places l)
    (read ∙ ap (λ (p : Part RelocationData). Some (part_map relocation_bytes p)) c.in-Read.is) in
    omega (arith, inside, begin, ap (λ (b : List ℕ). length b) c.bytes.ensures)

pub returns-in-Absent : goal.returns-in-Absent
returns-in-Absent c =
    let l = c.args.layout.now in
    let read = directory-read (layout_map l) (layout_places l) l.bytes.now _ _ c.in_ok-relocations.was c.placed_relocations-offset.ensures.value in
    record { filled = rw c.at_room.ensures (blocks-absent (layout_map l) (layout_places l) l.bytes.now c.args.position.now c.args.records.now c.in_ok-relocations.field-0 read c.in-Absent.is); kept = tt }

pub returns-in-Refused : goal.returns-in-Refused
returns-in-Refused c =
    let l = c.args.layout.now in
    let read = directory-read (layout_map l) (layout_places l) l.bytes.now _ _ c.in_ok-relocations.was c.placed_relocations-offset.ensures.value in
    let moved = ap (λ (p : ℕ). batch_at p c.args.records.now) c.skip_table.ensures.moved in
    record { filled = blocks-skipped (layout_map l) (layout_places l) l.bytes.now c.args.position.now c.args.records.now c.in_ok-relocations.field-0 read c.in-Refused.is (batch_at c.skip_table.new.position c.args.records.now) c.skip_table.result (c.skip_table.ensures.batch, moved); kept = tt }

pub returns-in-Read-clause-filled : goal.returns-in-Read-clause-filled
returns-in-Read-clause-filled c =
    let l = c.args.layout.now in
    let old = batch_at c.args.position.now c.args.records.now in
    let begin = c.unwrap_or-begin.ensures ∙ ap (λ (o : Option ℕ). unwrap_or o 0) c.placed_relocations-offset.ensures.offset in
    let read = directory-read (layout_map l) (layout_places l) l.bytes.now _ _ c.in_ok-relocations.was c.placed_relocations-offset.ensures.value in
    let new = batch_at c.fill_blocks.new.position c.fill_blocks.new.records in
    blocks-answered (layout_map l) (layout_places l) l.bytes.now c.in_ok-relocations.field-0 read old new c.in-Read.relocations c.in-Read.is c.unwrap_or-begin.result begin c.fill_blocks.result c.fill_blocks.ensures
