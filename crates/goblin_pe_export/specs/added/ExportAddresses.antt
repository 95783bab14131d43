-- What an export directory leads to, without the tables of the names.
use Rattle.std.specs.Prelude.{◌≡◌, ℕ, List, [], IfSome, Some}
use Rattle.goblin_base.specs.Reading.{Reading}
use Rattle.readings.specs.Reads.{◌>>=◌, ◌beside◌, mapped, or_none, up_to}
use Rattle.goblin_pe_sect.specs.declared.data_directories.DataDirectory.{DataDirectory}
use Rattle.goblin_pe_export.specs.ExportRecords.{ExportTables, addresses, ExportDirectoryTable}
use Rattle.goblin_pe_sect.specs.AddressReadings.{counted_at, name_at, offset_at}
use Rattle.goblin_pe_sect.specs.Addresses.{Addressing}
use Rattle.goblin_pe_export.specs.ExportReadings.{export_record_at, export_data, fitting_addresses}

-- what a record leads to, without the tables of the names: the library's name and the address table
unfoldable pub address_tables : Addressing → DataDirectory → ExportDirectoryTable
    → Reading ExportTables
address_tables addressing d t =
    mapped (λ parts. record {
      name = parts.0;
      export_directory_table = t;
      export_name_pointer_table = [];
      export_ordinal_table = [];
      export_address_table = parts.1;
    })
    (or_none (name_at addressing t.name_rva)
    beside counted_at (addresses d) t.address_table_entries addressing t.export_address_table_rva)

-- what the record at a directory's address leads to, without the tables of the names, whatever it
-- says about these; a loader finds an export by its ordinal without them
unfoldable pub export_addresses : Addressing → DataDirectory → Reading ExportTables
export_addresses addressing d =
    offset_at addressing.offset d.virtual_address
    >>= (λ p. up_to (addressing.end d.virtual_address) (export_record_at p)
    >>= λ t. fitting_addresses t >>= address_tables addressing d)

-- tables without those of the names
abbrev pub without_names : ExportTables → ExportTables
without_names tables =
    record tables { export_name_pointer_table = []; export_ordinal_table = [] }

-- If the export data is read, its addresses are these.
abbrev pub RepeatsAddresses : Addressing → DataDirectory → List ℕ → Type 0
RepeatsAddresses addressing d bytes =
    IfSome ((export_data addressing d).value bytes)
    (λ tables. (export_addresses addressing d).value bytes ≡ Some (without_names tables))
