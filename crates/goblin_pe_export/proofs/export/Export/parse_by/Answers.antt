use Rattle.std.proofs.Common.{ℕ, List, Option, [], ap, arith, length, sym, unwrap_or, ◌≡◌, ◌∙◌, option_to_list}
use Rattle.goblin_base.specs.Tables.{concat_below}
use Rattle.goblin_pe_sect.specs.{Addresses.map_of, declared.address_map.AddressMap.AddressMap}
use Rattle.goblin_pe_export.specs.{ExportRecords.ExportRow, Exports.export_row}
use Rattle.goblin_pe_export.proofs.ExportRows.{row_more, row_none, rows_listed}
use Rattle.goblin_pe_export.proofs.export.Export.parse_by.Goals as goal
use Rattle.goblin_pe_export.proofs.export.Export.parse_by.Goals.{in-Some+in_ok-make_room, in_default}

pub rows-preserved : goal.rows-preserved
rows-preserved c =
    let row : AddressMap → ℕ → Option ExportRow =
    λ m. export_row (map_of m).addressing c.args.bytes.now c.args.export_data.now in
    let each = row c.args.address_map.now in
    let here = ap (λ m. row m c.rows.index) c.rows.invariant.1 in
    let same = c.of_pointer-export.ensures.same ∙ c.rows.invariant.1 in
    elim c.match-export.branch [
      | in-Some+in_ok-make_room w ↦
          rw w.rows-is
          ((rw w.in_ok-make_room.ensures.kept at w.push_reserved.ensures.items) ∙ row_more each c.rows.index _ c.rows.invariant.0 _ (sym w.in-Some.ensures.row ∙ here), same)
      | in_default w ↦ rw w.rows-is (row_none each c.rows.index _ c.rows.invariant.0 (sym w.in_default.ensures.row ∙ here), same)
    ]

pub returns-clause-value : goal.returns-clause-value
returns-clause-value c =
    let m = (map_of c.args.address_map.now).addressing in
    let all : length c.args.export_data.now.export_name_pointer_table ≡ c.rows.index =
    omega (arith, c.rows-test.false, c.pointers-index-end.ensures) in
    ap (λ (o : Option (List ExportRow)). unwrap_or o [])
    (rows_listed m c.args.bytes.now c.args.export_data.now (sym c.is_empty.ensures ∙ c.if-is_empty.false))
    ∙ ap (concat_below (λ x. option_to_list (export_row m c.args.bytes.now c.args.export_data.now x))) all
    ∙ sym c.rows.invariant.0
