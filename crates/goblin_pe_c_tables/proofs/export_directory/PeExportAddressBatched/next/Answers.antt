use Rattle.std.proofs.Common.{ℕ, ap}
use Rattle.goblin_pe.specs.added.Layouts.{layout_map, layout_places}
use Rattle.goblin_pe_c_headers.specs.Onward.{batch_at}
use Rattle.goblin_pe_c_tables.proofs.AddressBatches.{addresses-absent, addresses-refused}
use Rattle.goblin_pe_c_tables.proofs.export_directory.PeExportAddressBatched.next.Goals as goal

pub returns-in-Absent : goal.returns-in-Absent
returns-in-Absent c =
    let l = c.args.layout.now in
    let old = batch_at c.args.position.now c.args.records.now in
    record { filled = rw c.at_room.ensures (addresses-absent (layout_map l) (layout_places l) l.bytes.now c.in_ok-exports.field-0 c.in_ok-exports.ensures.value old c.in-Absent.is); kept = tt }

pub returns-in-Refused : goal.returns-in-Refused
returns-in-Refused c =
    let l = c.args.layout.now in
    let old = batch_at c.args.position.now c.args.records.now in
    let moved = ap (λ (p : ℕ). batch_at p c.args.records.now) c.skip_table.ensures.moved in
    record { filled = addresses-refused (layout_map l) (layout_places l) l.bytes.now c.in_ok-exports.field-0 c.in_ok-exports.ensures.value old c.in-Refused.is (batch_at c.skip_table.new.position c.args.records.now) c.skip_table.result (c.skip_table.ensures.batch, moved); kept = tt }
