use Rattle.std.proofs.Common.{ap, arith, refl, nat_le, ◌≡◌, ◌⊎◌, ℕ, ◌+◌, subst}
use Rattle.goblin_pe_export.specs.added.ExportWalks.{exports_position}
use Rattle.goblin_pe.specs.added.Layouts.{layout_map, layout_places}
use Rattle.goblin_pe_c_headers.specs.Onward.{batch_at}
use Rattle.goblin_pe_c_tables.proofs.ExportBatches.{exports-absent, exports-given, exports-refused}
use Rattle.goblin_pe_c_tables.proofs.next.PeExportBatched.next.Goals as goal

pub returns-in-Read-clause-filled : goal.returns-in-Read-clause-filled
returns-in-Read-clause-filled c =
    let l = c.args.layout.now in
    let walk = c.in_ok-exports.ensures.walk in
    let from = c.from_position-exports.ensures in
    let filled = c.fill_exports-count.ensures in
    let end = c.end_within-end.ensures in
    let pointers = c.pointer_count-pointers.ensures in
    rw (c.at_room.ensures, c.position-next.ensures)
    (exports-given (layout_map l) (layout_places l) l.bytes.now c.in_ok-exports.field-0 c.in_ok-exports.ensures.value c.args.position.now c.args.records.now
    c.in-Read.exports c.in-Read.is walk c.args.steps.now c.saturating_sub-left.result c.from_position-exports.result c.fill_exports-count.new.exports c.end_within-end.result c.fill_exports-count.result
    c.saturating_sub-unmapped.result _ c.fill_exports-count.new.records c.longest_in-longest.result c.longest_in-longest.ensures
    from.left from.over from.at end.limit (omega (arith, end.within, pointers))
    (subst (λ (n : ℕ). (c.end_within-end.result ≡ n) ⊎ (c.end_within-end.result ≡ c.args.position.now + c.args.steps.now)) pointers end.whole)
    filled.filled filled.over filled.further filled.within filled.through (omega arith) (omega arith) (ap (λ (n : ℕ). nat_le n (exports_position c.fill_exports-count.new.exports)) pointers))

pub returns-in-Absent : goal.returns-in-Absent
returns-in-Absent c =
    let l = c.args.layout.now in
    record { filled = rw c.at_room-in-Absent.ensures (exports-absent (layout_map l) (layout_places l) l.bytes.now c.in_ok-exports.field-0 c.in_ok-exports.ensures.value c.args.position.now c.args.records.now c.args.steps.now c.in-Absent.is); kept = tt }

pub returns-in-Refused : goal.returns-in-Refused
returns-in-Refused c =
    let l = c.args.layout.now in
    let moved = ap (λ (p : ℕ). batch_at p c.args.records.now) c.skip_table.ensures.moved in
    record { filled = exports-refused (layout_map l) (layout_places l) l.bytes.now c.in_ok-exports.field-0 c.in_ok-exports.ensures.value c.args.position.now c.args.records.now c.args.steps.now c.in-Refused.is (batch_at c.skip_table.new.position c.args.records.now) c.skip_table.result (c.skip_table.ensures.batch, moved); kept = tt }
