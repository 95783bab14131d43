-- Import descriptors, the records of an import directory, and the libraries that they lead to, as
-- values.
use Rattle.std.specs.Prelude.{ℕ, ◌==◌, Bool, ◌||◌, if◌then◌else◌, List, [], ◌∷◌, Option}
use Rattle.std.specs.Option.{option_or}
use Rattle.goblin_base.specs.declared.endian.Endian.{Endian}
use Rattle.goblin_base.specs.{declared.endian.Endian.TheVariants.Little, Bytes.number}
use Rattle.goblin_base.specs.{Record.FieldValue, Record.uint, Tables.SlotFormat}
use Rattle.goblin_pe_import.specs.ImportEntries.{LookupEntry}
use Rattle.goblin_pe_import.specs.declared.import.directory_entry as directory
pub use directory.ImportDirectoryEntry.{ImportDirectoryEntry}
use Rattle.goblin_pe_sect.specs.Addresses.{Addressing}

-- Source: PE Format, "Import Directory Table".

-- the descriptor in its 20 bytes
abbrev pub import_record : Endian → List ℕ → ImportDirectoryEntry
import_record endian bytes = record {
  import_lookup_table_rva = number endian 4 bytes 0;
  time_date_stamp = number endian 4 bytes 4;
  forwarder_chain = number endian 4 bytes 8;
  name_rva = number endian 4 bytes 12;
  import_address_table_rva = number endian 4 bytes 16;
}

-- the fields of a descriptor, in order
abbrev pub import_fields : ImportDirectoryEntry → List FieldValue
import_fields r =
    uint 4 r.import_lookup_table_rva ∷ uint 4 r.time_date_stamp ∷ uint 4 r.forwarder_chain
    ∷ uint 4 r.name_rva ∷ uint 4 r.import_address_table_rva ∷ []

-- whether a descriptor ends a directory: the address of its name or of its address table is 0
abbrev pub is_last_record : ImportDirectoryEntry → Bool
is_last_record r = r.name_rva == 0 || r.import_address_table_rva == 0

-- directories of such descriptors
abbrev pub import_slots : SlotFormat ImportDirectoryEntry
import_slots =
    record {
      entry = record { width = 20; value_of = import_record Little };
      is_last = is_last_record;
    }

-- what a descriptor leads to
pub record ImportedLibrary : Type 0 where
  pub import_directory_entry : ImportDirectoryEntry
  pub name : List ℕ
  pub import_lookup_table : Option (List LookupEntry)
  pub import_lookup_slots : List ℕ
  pub import_address_table : List ℕ

-- the same, with the index of the descriptor in its directory
pub record NumberedLibrary : Type 0 where
  pub index : ℕ
  pub library : ImportedLibrary

-- the offset of a descriptor's lookup table: that of its own address or, if this has none, that of
-- the address table's address
abbrev pub lookup_offset : Addressing → ImportDirectoryEntry → Option ℕ
lookup_offset addressing r =
    option_or (addressing.offset r.import_lookup_table_rva)
    (addressing.offset r.import_address_table_rva)

-- the address of a descriptor's address table, or that of its lookup table if it is 0
abbrev pub address_table_rva : ImportDirectoryEntry → ℕ
address_table_rva r =
    if r.import_address_table_rva == 0
    then r.import_lookup_table_rva
    else r.import_address_table_rva
