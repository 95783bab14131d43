-- The records of what an export directory says, and of the export address table, as definitions.
use Rattle.std.specs.Prelude.{ℕ, ◌+◌, Bool, true, false, List, [], ◌∷◌, map, Option, unwrap_or}
use Rattle.std.specs.Prelude.{is_some}
use Rattle.std.specs.List.{enumerate_from}
use Rattle.goblin_pe_export.specs.declared.export.tables as tables
use tables.ExportAddressTableEntry.{ExportAddressTableEntry}
use tables.ExportAddressTableEntry.TheVariants as variant
use tables.ExportDirectoryTable.{ExportDirectoryTable}
use Rattle.goblin_pe_export.specs.ExportRecords.{ExportTables, rva_of}
use Rattle.goblin_pe_sect.specs.Addresses.{Addressing}
use Rattle.goblin_pe_c_headers.specs.Names.{cut_name}
pub use Rattle.goblin_pe_c_tables.specs.declared.export_directory.PeExportAddress.{PeExportAddress}
use Rattle.goblin_pe_c_tables.specs.declared.export_directory.PeExportDirectory.{PeExportDirectory}

abbrev pub is_forwarder : ExportAddressTableEntry → Bool
is_forwarder (variant.ExportRVA rva) = false
is_forwarder (variant.ForwarderRVA rva) = true

abbrev pub address_for_c : Addressing → ℕ → ExportAddressTableEntry → PeExportAddress
address_for_c addressing ordinal entry = record {
  ordinal = ordinal;
  rva = rva_of entry;
  offset = unwrap_or (addressing.offset (rva_of entry)) 0;
  is_forwarder = is_forwarder entry;
  has_offset = is_some (addressing.offset (rva_of entry));
  reserved = 0 ∷ 0 ∷ 0 ∷ 0 ∷ 0 ∷ 0 ∷ [];
}

-- the records of all entries; an ordinal is the ordinal base and an index
abbrev pub addresses_for_c : Addressing → ExportTables → List PeExportAddress
addresses_for_c addressing tables =
    map (λ x. address_for_c addressing (tables.export_directory_table.ordinal_base + x.0) x.1)
    (enumerate_from 0 tables.export_address_table)

-- a record of what an export directory says, its slice as a list
pub record DirectoryModel : Type 0 where
  pub name : List ℕ
  pub table : ExportDirectoryTable
  pub has_name : Bool
  pub is_name_cut : Bool
  pub is_present : Bool
  pub reserved : List ℕ

abbrev pub directory_for_c : Option ℕ → ExportTables → DirectoryModel
directory_for_c longest tables =
    let name = cut_name longest (unwrap_or tables.name []) in
    record {
      name = name.0;
      table = tables.export_directory_table;
      has_name = is_some tables.name;
      is_name_cut = name.1;
      is_present = true;
      reserved = 0 ∷ 0 ∷ 0 ∷ 0 ∷ 0 ∷ [];
    }

-- zeros, if the exports are not read
abbrev pub no_export_directory : DirectoryModel
no_export_directory = record {
  name = [];
  table = record {
    export_flags = 0;
    time_date_stamp = 0;
    major_version = 0;
    minor_version = 0;
    name_rva = 0;
    ordinal_base = 0;
    address_table_entries = 0;
    number_of_name_pointers = 0;
    export_address_table_rva = 0;
    name_pointer_rva = 0;
    ordinal_table_rva = 0;
  };
  has_name = false;
  is_name_cut = false;
  is_present = false;
  reserved = 0 ∷ 0 ∷ 0 ∷ 0 ∷ 0 ∷ [];
}

abbrev pub directory_model : PeExportDirectory → DirectoryModel
directory_model d = record {
  name = d.name.now;
  table = d.«record»;
  has_name = d.has_name;
  is_name_cut = d.is_name_cut;
  is_present = d.is_present;
  reserved = d.reserved;
}
