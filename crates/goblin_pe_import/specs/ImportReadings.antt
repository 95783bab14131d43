-- The import directory: its import descriptors, and the library to which each leads, over a map of
-- addresses to file offsets.
use Rattle.std.specs.Prelude.{ℕ, ◌==◌, Bool, ◌&&◌, not, cond, List, [], ◌∷◌, Option, Some, None}
use Rattle.goblin_base.specs.declared.endian.Endian.TheVariants.{Little}
use Rattle.goblin_base.specs.{declared.error.CauseOf.TheVariants.ImportRecordEnd, Reading.Reading}
use Rattle.goblin_base.specs.Tables.{Format}
use Rattle.readings.specs.Reads.{◌>>=◌, ◌beside◌, because, given, mapped, or_else, or_left_out}
use Rattle.readings.specs.Reads.{record_at, table, table_with_slots}
use Rattle.goblin_pe_sect.specs.AddressReadings.{name_at, offset_at}
use Rattle.goblin_pe_sect.specs.Addresses.{Addressing}
use Rattle.goblin_pe_import.specs.ImportEntries.{EntryValue, LookupEntry}
use Rattle.goblin_pe_import.specs.ImportRecords.{ImportedLibrary, address_table_rva, import_record}
use Rattle.goblin_pe_import.specs.ImportRecords.{NumberedLibrary, import_slots, lookup_offset}
use Rattle.goblin_pe_import.specs.LookupReadings.{address_table, lookup_with_slots}
use Rattle.goblin_pe_import.specs.ImportRecords.{ImportDirectoryEntry}

-- the descriptor at an offset
abbrev pub import_record_at : ℕ → Reading ImportDirectoryEntry
import_record_at p = because (ImportRecordEnd p) (record_at 20 (import_record Little) p)

-- The offset of the first descriptor of a directory that has this offset, if it has one. Permissive
-- mode treats a directory at the front of the file as empty.
abbrev pub first_record_offset : Bool → Option ℕ → Option ℕ
first_record_offset strict None = None
first_record_offset strict (Some o) = cond (not strict && o == 0) None (Some o)

-- what is read of a directory whose first descriptor is at this offset, if it has one
abbrev pub read_if : {A : Type 0} → (ℕ → Reading (List A)) → Option ℕ → Reading (List A)
read_if read None = given []
read_if read (Some o) = read o

-- what is read of the directory at an offset
abbrev pub read_past_front : {A : Type 0} → Bool → (ℕ → Reading (List A)) → ℕ → Reading (List A)
read_past_front strict read o = read_if read (first_record_offset strict (Some o))

-- What is read of the directory at an address. Permissive mode treats an address without an offset
-- as one that leads to the front of the file.
abbrev pub read_directory : {A : Type 0} → Bool → Addressing → (ℕ → Reading (List A)) → ℕ
    → Reading (List A)
read_directory strict addressing read rva =
    or_else strict 0 (offset_at addressing.offset rva) >>= read_past_front strict read

-- libraries with the indexes of their descriptors, one index for each
abbrev pub at_index : ℕ → ImportedLibrary → NumberedLibrary
at_index index library = record { index = index; library = library }

unfoldable pub numbered : List ImportedLibrary → List ℕ → List NumberedLibrary
numbered [] indexes = []
numbered (library ∷ libraries) [] = []
numbered (library ∷ libraries) (index ∷ indexes) =
    at_index index library ∷ numbered libraries indexes

module _ (strict : Bool) (format : Format EntryValue) (addressing : Addressing) where
  -- the lookup table at an offset with its slots, or nothing if there is no offset
  unfoldable pub lookup_if : Option ℕ → Reading (Option (List LookupEntry) × List ℕ)
  lookup_if None = given (None, [])
  lookup_if (Some o) =
      mapped (λ both. (Some both.0, both.1)) (lookup_with_slots strict format addressing o)

  -- What a descriptor leads to: its name, its lookup table and its address table. Permissive mode
  -- uses the empty name if there is none.
  unfoldable pub library_of : ImportDirectoryEntry → Reading ImportedLibrary
  library_of r =
      mapped (λ parts. record {
        import_directory_entry = r;
        name = parts.0.0;
        import_lookup_table = parts.0.1.0;
        import_lookup_slots = parts.0.1.1;
        import_address_table = parts.1;
      })
      (or_else strict [] (name_at addressing r.name_rva)
      beside lookup_if (lookup_offset addressing r)
      beside (offset_at addressing.offset (address_table_rva r) >>= address_table format))

  -- the library of a descriptor; permissive mode leaves out a descriptor that leads to none
  abbrev pub kept_library : ImportDirectoryEntry → Reading (List ImportedLibrary)
  kept_library r = or_left_out strict (library_of r)

  -- The libraries of the directory at an offset: those of the descriptors before the first that is
  -- not in the file or ends the directory. Strict mode needs that descriptor, and a library for
  -- each of those before it. Permissive mode leaves out descriptors that lead to none.
  abbrev pub libraries_at : ℕ → Reading (List ImportedLibrary)
  libraries_at o = table None import_slots strict import_record_at kept_library o

  -- the libraries of the directory at an offset, and the indexes of the descriptors that are kept
  abbrev pub indexed_at : ℕ → Reading (List ImportedLibrary × List ℕ)
  indexed_at o = table_with_slots None import_slots strict import_record_at kept_library o

  -- the same libraries, each with the index of its descriptor
  unfoldable pub numbered_libraries_at : ℕ → Reading (List NumberedLibrary)
  numbered_libraries_at o = mapped (λ both. numbered both.0 both.1) (indexed_at o)

  -- the libraries of the directory at an address
  unfoldable pub import_data : ℕ → Reading (List ImportedLibrary)
  import_data rva = read_directory strict addressing libraries_at rva

  -- the same libraries, each with the index of its descriptor
  unfoldable pub numbered_data : ℕ → Reading (List NumberedLibrary)
  numbered_data rva = read_directory strict addressing numbered_libraries_at rva
