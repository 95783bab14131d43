use Rattle.std.proofs.Common.{◌≡◌, option_to_list}
use Rattle.goblin_base.specs.Tables.{concat_below}
use Rattle.goblin_pe_sect.specs.Addresses.{map_of}
use Rattle.goblin_pe_export.specs.Exports.{export_row}
use Rattle.goblin_pe_export.proofs.export.Export.parse_by.Given as goal

abbrev pub invariant-rows : goal.invariant-rows
invariant-rows l =
    (l.rows.items
    ≡ concat_below (λ x. option_to_list (export_row (map_of l.fn.address_map).addressing l.fn.bytes l.fn.export_data x)) l.index)
    × (l.finder ≡ l.fn.address_map)
