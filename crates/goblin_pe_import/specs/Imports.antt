-- The imports of import data: one for each entry that a lookup table keeps, in the order of the
-- libraries and of the entries.
use Rattle.std.specs.Prelude.{◌≡◌, ◌⊎◌, ℕ, ◌+◌, ◌*◌, ◌^◌, ◌++◌, ◌==◌, nat_lt, not, IsSomeAnd, Bool}
use Rattle.std.specs.Prelude.{true, false, if◌then◌else◌, codes, List, [], length, map, slice_get}
use Rattle.std.specs.Prelude.{Option, Some, None, unwrap_or, decimal, find}
use Rattle.goblin_base.specs.declared.error.ErrorOf.{ErrorOf}
use Rattle.goblin_base.specs.{declared.error.ErrorOf.TheVariants.Malformed, Tables.each_below}
use Rattle.goblin_base.specs.declared.error.CauseOf.TheVariants.{Overflow, SlotCount}
use Rattle.goblin_base.specs.Answers.{◌>>=◌, all_at}
use Rattle.goblin_pe_import.specs.ImportLookup.{LookupEntry}
use Rattle.goblin_pe_import.specs.ImportEntries.LookupEntry.{ByName, ByOrdinal}
use Rattle.goblin_pe_import.specs.ImportRecords.{ImportedLibrary, NumberedLibrary}

-- Source: PE Format, "The .idata Section".

-- an import, its texts as their bytes; and whether its name is a text in the file, not a copy
pub record ImportValue : Type 0 where
  pub name : List ℕ
  pub is_borrowed : Bool
  pub dll : List ℕ
  pub ordinal : ℕ
  pub offset : ℕ
  pub rva : ℕ
  pub size : ℕ
  pub slot : ℕ

-- an import, with the index of the library's import descriptor in its directory
pub record NumberedImport : Type 0 where
  pub library : ℕ
  pub import : ImportValue

-- the name of an import by ordinal
abbrev pub ordinal_name : ℕ → List ℕ
ordinal_name ordinal = codes "ORDINAL " ++ decimal ordinal

-- what an entry says of its import: the name, whether it is a text in the file, the ordinal or the
-- hint, and the address of the hint and the name, which is 0 for an import by ordinal
abbrev pub entry_name : LookupEntry → List ℕ
entry_name (ByOrdinal ordinal) = ordinal_name ordinal
entry_name (ByName rva named) = named.name

abbrev pub entry_has_name : LookupEntry → Bool
entry_has_name (ByOrdinal ordinal) = false
entry_has_name (ByName rva named) = true

abbrev pub entry_ordinal : LookupEntry → ℕ
entry_ordinal (ByOrdinal ordinal) = ordinal
entry_ordinal (ByName rva named) = named.hint

abbrev pub entry_name_rva : LookupEntry → ℕ
entry_name_rva (ByOrdinal ordinal) = 0
entry_name_rva (ByName rva named) = rva

-- the import of an entry, from the library of this name, with the index and the address of its
-- slot, and with this size
abbrev pub import_of : List ℕ → ℕ → ℕ → ℕ → LookupEntry → ImportValue
import_of dll slot offset size entry = record {
  name = entry_name entry;
  is_borrowed = entry_has_name entry;
  dll = dll;
  ordinal = entry_ordinal entry;
  offset = offset;
  rva = entry_name_rva entry;
  size = size;
  slot = slot;
}

-- the address of a slot of an address table of entries of `size` bytes, if it does not overflow 64
-- bits
abbrev pub import_offset : ℕ → ℕ → ℕ → Option ℕ
import_offset rva size slot =
    if nat_lt (rva + size * slot) (2 ^ 64) then Some (rva + size * slot) else None

-- the import of the entry at a position, with its slot
abbrev pub import_at : ℕ → List ℕ → ℕ → List LookupEntry → List ℕ → ℕ → Option ImportValue
import_at size dll rva entries slots position = do
  entry ← slice_get entries position
  slot ← slice_get slots position
  offset ← import_offset rva size slot
  Some (import_of dll slot offset size entry)

-- the imports of the entries that a lookup table keeps, if no slot has an address that overflows 64
-- bits
unfoldable pub imports_by : ℕ → List ℕ → ℕ → List LookupEntry → List ℕ → Option (List ImportValue)
imports_by size dll rva entries slots =
    all_at (import_at size dll rva entries slots) (length entries)

-- the entries that a library's lookup table keeps
abbrev pub kept_entries : ImportedLibrary → List LookupEntry
kept_entries library = unwrap_or library.import_lookup_table []

-- a library has as many entries as slots
abbrev pub has_slots : ImportedLibrary → Bool
has_slots library = length (kept_entries library) == length library.import_lookup_slots

-- the imports from a library, if it has as many slots as entries
abbrev pub library_imports : ℕ → ImportedLibrary → Option (List ImportValue)
library_imports size library =
    if has_slots library
    then imports_by size library.name library.import_directory_entry.import_address_table_rva
    (kept_entries library) library.import_lookup_slots
    else None

-- What is kept of each of the imports from a library, in order. A library that was read has a slot
-- for each of its entries, and no slot whose address overflows 64 bits.
abbrev pub kept_imports : {X : Type 0} → (ImportValue → X) → ℕ → ImportedLibrary → List X
kept_imports item_of size library = map item_of (unwrap_or (library_imports size library) [])

-- the imports from a library, each with the index of the library's import descriptor
abbrev pub at_library : ℕ → ImportValue → NumberedImport
at_library index import = record { library = index; import = import }

abbrev pub numbered_imports : ℕ → NumberedLibrary → List NumberedImport
numbered_imports size x = kept_imports (at_library x.index) size x.library

-- the imports from all libraries, of entries of `size` bytes
unfoldable pub imports_of : ℕ → List ImportedLibrary → Option (List ImportValue)
imports_of size libraries =
    each_below (λ i. slice_get libraries i >>= library_imports size) (length libraries)

-- The refusal is that the address of a slot overflows 64 bits.
abbrev pub IsOverflow : ErrorOf → Type 0
IsOverflow (Malformed Overflow) = Unit {0}
IsOverflow e = ⊥

-- the first library whose entries and slots differ in number
abbrev pub first_without_slots : List ImportedLibrary → Option ImportedLibrary
first_without_slots libraries = find (λ library. not (has_slots library)) libraries

-- The refusal says how many entries and how many slots a library has.
abbrev pub IsSlotCount : ImportedLibrary → ErrorOf → Type 0
IsSlotCount library (Malformed (SlotCount entries slots)) =
    (entries ≡ length (kept_entries library)) × (slots ≡ length library.import_lookup_slots)
IsSlotCount library e = ⊥

-- the cause that is true of imports that are refused: the counts of the first library whose entries
-- and slots differ in number or, if there is none, that the address of a slot overflows 64 bits
abbrev pub IsImportListFault : List ImportedLibrary → ErrorOf → Type 0
IsImportListFault libraries e =
    IsSomeAnd (first_without_slots libraries) (λ library. IsSlotCount library e)
    ⊎ ((first_without_slots libraries ≡ None) × IsOverflow e)
