use Rattle.std.proofs.Common.{◌≡◌, option_map}
use Rattle.goblin_base.specs.Parts.{bytes_in, in_memory}
use Rattle.goblin_pe_sect.specs.Addresses.{map_of}
use Rattle.goblin_pe_export.specs.ExportRecords.{table_bytes}
use Rattle.goblin_pe_export.proofs.ExportRows.{named_at, tables_are}
use Rattle.goblin_pe_export.proofs.export.entries.TablesInFile.of_record.Goals as goal

pub returns-clause-value : goal.returns-clause-value
returns-clause-value c =
    let m = (map_of c.args.finder.now).addressing in
    let t = c.args.table in
    let first : table_bytes 4 t.number_of_name_pointers (in_memory (m.end t.name_pointer_rva) c.args.bytes.now) (m.offset t.name_pointer_rva) ≡ bytes_in c.whole_entries.result = cc in
    let second : table_bytes 2 t.number_of_name_pointers (in_memory (m.end t.ordinal_table_rva) c.args.bytes.now) (m.offset t.ordinal_table_rva) ≡ bytes_in c.whole_entries-2.result = cc in
    let third : table_bytes 4 t.address_table_entries (in_memory (m.end t.export_address_table_rva) c.args.bytes.now) (m.offset t.export_address_table_rva) ≡ bytes_in c.whole_entries-3.result = cc in
    let named = named_at m t.name_rva c.args.bytes.now (bytes_in c.part_of_name-name.result.0) c.part_of_name-name.result.1 c.longest_name.result (option_map (λ s. s.now) c.text_within.result) (cc) (cc) (cc) c.text_within.ensures in
    tables_are m c.args.directory t c.args.bytes.now _ _ _ _ named first second third
