use Rattle.std.proofs.Common.{◌∙◌, ◌+◌, Some, ap, arith, sym}
use Rattle.std.proofs.lemmas.Option.{slice_get_past}
use Rattle.goblin_pe_export.specs.added.ExportWalks.{walked_tables}
use Rattle.goblin_pe_sect.specs.Addresses.{map_of}
use Rattle.goblin_pe_export.specs.declared.export.tables.ExportDirectoryTable.{ExportDirectoryTable}
use Rattle.goblin_pe_c_tables.specs.ExportDirectories.{address_for_c, PeExportAddress}
use Rattle.goblin_pe_c_tables.proofs.AddressBatches.{address-none, address-some}
use Rattle.goblin_pe_c_tables.proofs.export_directory.address_at.Goals as goal

pub returns-then-address_count-index : goal.returns-then-address_count-index
returns-then-address_count-index c =
    let tables = walked_tables c.args.exports.now in
    let count = c.address_count.ensures.value in
    address-none (map_of c.args.address_map.now).addressing tables c.args.index
    (sym (slice_get_past tables.export_address_table c.args.index (omega (arith, count, c.if-address_count-index.true))))

pub returns-in_default : goal.returns-in_default
returns-in_default c =
    address-none (map_of c.args.address_map.now).addressing (walked_tables c.args.exports.now) c.args.index c.in_default.ensures

pub returns : goal.returns
returns c =
    let tables = walked_tables c.args.exports.now in
    let base = ap (λ (t : ExportDirectoryTable). Some (address_for_c (map_of c.args.address_map.now).addressing (t.ordinal_base + c.args.index) c.in-Some.entry)) c.directory_table.ensures in
    ap (λ (r : PeExportAddress). Some r) c.address_record.ensures
    ∙ base
    ∙ address-some (map_of c.args.address_map.now).addressing tables c.args.index c.in-Some.entry c.in-Some.ensures
