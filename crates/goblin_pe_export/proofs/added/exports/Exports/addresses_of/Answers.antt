use Rattle.std.proofs.Common.{◌≡◌, ◌∙◌, Some, ap, refl, subst}
use Rattle.goblin_base.specs.Parts.{bytes_in, in_memory}
use Rattle.goblin_pe_sect.specs.declared.address_map.AddressMap.{AddressMap}
use Rattle.goblin_pe_sect.specs.Addresses.{map_of}
use Rattle.goblin_pe_export.specs.ExportReadings.{export_tables}
use Rattle.goblin_pe_export.specs.ExportRecords.{tables_in}
use Rattle.goblin_pe_export.proofs.WholeEntries.{no_ordinals, no_pointers}
use Rattle.goblin_pe_export.proofs.added.ExportAddresses.{addresses_read}
use Rattle.goblin_pe_export.proofs.added.exports.Exports.addresses_of.Goals as goal

pub returns-clause-value : goal.returns-clause-value
returns-clause-value c =
    let m = (map_of c.args.address_map.now).addressing in
    let d = c.args.directory in
    let bytes = c.args.bytes.now in
    let t = c.in_ok-table.table in
    let same : c.part_of-offset.new.self ≡ c.args.address_map.now = c.part_of-offset.ensures.same ∙ c.of-finder.ensures in
    let read : (export_tables m d t).value bytes ≡ Some (tables_in c.of_record-tables.result) =
    subst (λ (f : AddressMap). (export_tables (map_of f).addressing d t).value bytes ≡ Some (tables_in c.of_record-tables.result)) same c.of_record-tables.ensures.value in
    let in_part = c.part_of-offset.ensures.part ∙ ap (λ (f : AddressMap). in_memory ((map_of f).addressing.end d.virtual_address) bytes) c.of-finder.ensures in
    let at = c.part_of-offset.ensures.offset ∙ ap (λ (f : AddressMap). (map_of f).addressing.offset d.virtual_address) c.of-finder.ensures in
    rw (c.whole-none.ensures.value, no_pointers, no_ordinals)
    (addresses_read m d bytes (bytes_in c.part_of-offset.result.0) c.part_of-offset.result.1 c.in-Some.offset t _ _ in_part at c.in-Some.is c.in_ok-table.ensures c.in_ok-test_address_count.ensures refl read)
