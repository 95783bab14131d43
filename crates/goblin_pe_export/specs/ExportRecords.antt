-- The record of an export directory, the entries of its tables, and the exports that these list, as
-- values.
use Rattle.std.specs.Prelude.{ℕ, ◌+◌, ◌&&◌, nat_le, nat_lt, if◌then◌else◌, Bool, List, [], ◌∷◌}
use Rattle.std.specs.Prelude.{None, Option, Some, Vec, ◌*◌, ◌-◌, ◌/◌, length, map, min, option_map}
use Rattle.std.specs.Prelude.{slice_range}
use Rattle.std.specs.Global.{Global}
use Rattle.goblin_base.specs.Parts.{bytes_in}
use Rattle.goblin_base.specs.declared.endian.Endian.{Endian}
use Rattle.goblin_base.specs.{declared.endian.Endian.TheVariants.Little, Bytes.number}
use Rattle.goblin_base.specs.{Record.FieldValue, Record.uint, Tables.Format, Tables.records_in}
use Rattle.goblin_pe_sect.specs.declared.data_directories.DataDirectory.{DataDirectory}
use Rattle.goblin_pe_export.specs.declared.export.entries.TablesInFile.{TablesInFile}
use Rattle.goblin_pe_export.specs.declared.export.tables as tables
pub use tables.ExportAddressTableEntry.{ExportAddressTableEntry}
use tables.ExportAddressTableEntry.TheVariants as variant
pub use tables.ExportDirectoryTable.{ExportDirectoryTable}
use Rattle.goblin_pe_export.specs.Forwarders.{Forwarder}

-- Source: PE Format, "The .edata Section (Image Only)".

-- ---- the record

-- the export directory in a record's 40 bytes
abbrev pub export_directory_record : Endian → List ℕ → ExportDirectoryTable
export_directory_record endian bytes = record {
  export_flags = number endian 4 bytes 0;
  time_date_stamp = number endian 4 bytes 4;
  major_version = number endian 2 bytes 8;
  minor_version = number endian 2 bytes 10;
  name_rva = number endian 4 bytes 12;
  ordinal_base = number endian 4 bytes 16;
  address_table_entries = number endian 4 bytes 20;
  number_of_name_pointers = number endian 4 bytes 24;
  export_address_table_rva = number endian 4 bytes 28;
  name_pointer_rva = number endian 4 bytes 32;
  ordinal_table_rva = number endian 4 bytes 36;
}

-- the fields of an export directory, in order
abbrev pub export_directory_fields : ExportDirectoryTable → List FieldValue
export_directory_fields t =
    uint 4 t.export_flags ∷ uint 4 t.time_date_stamp ∷ uint 2 t.major_version
    ∷ uint 2 t.minor_version ∷ uint 4 t.name_rva ∷ uint 4 t.ordinal_base
    ∷ uint 4 t.address_table_entries ∷ uint 4 t.number_of_name_pointers
    ∷ uint 4 t.export_address_table_rva ∷ uint 4 t.name_pointer_rva ∷ uint 4 t.ordinal_table_rva
    ∷ []

-- ---- the tables

-- name pointers: addresses of four bytes
abbrev pub name_pointers : Format ℕ
name_pointers = record { width = 4; value_of = λ bytes. number Little 4 bytes 0 }

-- ordinals: two bytes each
abbrev pub ordinals : Format ℕ
ordinals = record { width = 2; value_of = λ bytes. number Little 2 bytes 0 }

-- the address lies in the directory
abbrev pub is_in_directory : DataDirectory → ℕ → Bool
is_in_directory d rva = nat_le d.virtual_address rva && nat_lt rva (d.virtual_address + d.size)

-- What an address leads to: a forwarder's text if it lies in the export directory, else an export.
unfoldable pub address_entry : DataDirectory → ℕ → ExportAddressTableEntry
address_entry d rva =
    if is_in_directory d rva then variant.ForwarderRVA rva else variant.ExportRVA rva

-- addresses: four bytes each
abbrev pub addresses : DataDirectory → Format ExportAddressTableEntry
addresses d = record { width = 4; value_of = λ bytes. address_entry d (number Little 4 bytes 0) }

-- the address that an entry holds
abbrev pub rva_of : ExportAddressTableEntry → ℕ
rva_of (variant.ExportRVA rva) = rva
rva_of (variant.ForwarderRVA rva) = rva

-- what an export directory leads to: the library's name, the record itself, and the three tables
pub record ExportTables : Type 0 where
  pub name : Option (List ℕ)
  pub export_directory_table : ExportDirectoryTable
  pub export_name_pointer_table : List ℕ
  pub export_ordinal_table : List ℕ
  pub export_address_table : List ExportAddressTableEntry

-- ---- the tables as bytes of the file

-- The bytes of a table of `count` entries of `width` bytes at a place, up to the first incomplete
-- entry. A table without a place has none.
abbrev pub table_bytes : ℕ → ℕ → List ℕ → Option ℕ → List ℕ
table_bytes width count bytes None = []
table_bytes width count bytes (Some o) =
    slice_range bytes o (o + width * min ((length bytes - o) / width) count)

-- the consecutive entries that bytes hold
abbrev pub entries_in : {V : Type 0} → Format V → List ℕ → List V
entries_in format bytes = records_in format.width format.value_of bytes

-- the tables whose entries are these bytes of the file
abbrev pub tables_in : TablesInFile → ExportTables
tables_in t = record {
  name = option_map (λ s. s.now) t.name;
  export_directory_table = t.export_directory_table;
  export_name_pointer_table = entries_in name_pointers (bytes_in t.name_pointers);
  export_ordinal_table = entries_in ordinals (bytes_in t.ordinals);
  export_address_table = entries_in (addresses t.directory) (bytes_in t.addresses);
}

-- ---- the exports

-- An export: its name, if that can be read, its file offset and RVA, its size, which is not known,
-- and what it refers to in another library.
pub record ExportRow : Type 0 where
  pub name : Option (List ℕ)
  pub offset : Option ℕ
  pub rva : ℕ
  pub size : ℕ
  pub reexport : Option Forwarder

-- an export, with the index of its name pointer, its own ordinal and the RVA of its name
pub record NumberedExport : Type 0 where
  pub hint : ℕ
  pub ordinal : ℕ
  pub name_rva : ℕ
  pub row : ExportRow

-- the export of the name pointer at index x, with the numbers that this pointer and its entry of
-- the ordinal table give
abbrev pub numbered_by : ExportTables → ℕ → ℕ → ℕ → ExportRow → NumberedExport
numbered_by tables x pointer ordinal row = record {
  hint = x;
  ordinal = tables.export_directory_table.ordinal_base + ordinal;
  name_rva = pointer;
  row = row;
}

-- tables and the rows of their exports, without the numbers
abbrev pub read_rows : ExportTables × List NumberedExport → ExportTables × List ExportRow
read_rows read = (read.0, map (λ x. x.row) read.1)

-- tables and exports, as their reader returns them
abbrev pub export_read_model : ExportTables × Vec ExportRow Global → ExportTables × List ExportRow
export_read_model read = (read.0, read.1.items)
