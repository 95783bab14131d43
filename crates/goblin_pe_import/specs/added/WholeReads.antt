-- Where strict mode refuses nothing of imports: by the names that are there. How much permissive
-- mode counts is said in `Passed`.
use Rattle.std.specs.Prelude.{◌≡◌, ◌≢◌, ◌↔◌, ◌<◌, ℕ, ◌+◌, false, if◌then◌else◌, List, count_by}
use Rattle.std.specs.Prelude.{Option, Some, is_some, IfSome, IsSome, IsSomeAnd, Result, IsOkAnd}
use Rattle.goblin_base.specs.{declared.error.ErrorOf.ErrorOf, Answers.all_of}
use Rattle.goblin_base.specs.Tables.{Format, SlotFormat, slot_at, stop}
use Rattle.readings.specs.Reads.{text_within, up_to}
use Rattle.goblin_pe_sect.specs.{AddressReadings.name_at, Addresses.Addressing}
use Rattle.goblin_pe_import.specs.ImportEntries.{EntryValue, entry_slots}
use Rattle.goblin_pe_import.specs.ImportRecords.{ImportDirectoryEntry, import_slots, lookup_offset}
use Rattle.goblin_pe_import.specs.Passed.Count.{Skipped}
use Rattle.goblin_pe_import.specs.added.ImportWalks.{Imports, imports_left, walk_passes}
use Rattle.goblin_pe_import.specs.added.Libraries.{LibraryValue}

-- This holds of each entry of a table at an offset, before its stop.
abbrev pub OfEach : {V : Type 0} → SlotFormat V → (V → Type 0) → List ℕ → ℕ → Type 0
OfEach slots Holds bytes o =
    (i : ℕ) → i < stop slots bytes o → IsSomeAnd (slot_at slots bytes o i) Holds

module _ (addressing : Addressing) (bytes : List ℕ) where
  -- If an entry imports by name, and the address of its hint and name has an offset, the name can
  -- be read.
  abbrev pub HasImportName : EntryValue → Type 0
  HasImportName entry =
      entry.is_ordinal ≡ false
      → IfSome (addressing.offset entry.rva)
      (λ p. IsSome
      ((up_to (addressing.end entry.rva) (text_within addressing.longest (p + 2))).value bytes))

  -- The name of a library can be read, and that of each import by name in its lookup table.
  abbrev pub HasNames : Format EntryValue → ImportDirectoryEntry → Type 0
  HasNames format r =
      IsSome ((name_at addressing r.name_rva).value bytes)
      × IfSome (lookup_offset addressing r) (OfEach (entry_slots format) HasImportName bytes)

  -- All names can be read of the libraries and the imports by name of a directory at an offset.
  abbrev pub AllHaveNames : Format EntryValue → ℕ → Type 0
  AllHaveNames format o = OfEach import_slots (HasNames format) bytes o

-- Two walks over the imports at an address, the first in strict mode. It yields no error, and the
-- directory does not lie at the front of the file, exactly if the second skips nothing, which is in
-- permissive mode, and all names can be read.
abbrev pub AreWhole : {S T : Type 0} → Format EntryValue → Addressing → List ℕ → ℕ
    → Result (Imports S) ErrorOf → Result (Imports T) ErrorOf → Type 0
AreWhole format addressing bytes rva first second =
    let place = addressing.offset rva in
    (IsOkAnd first (λ it. IsSome (all_of (imports_left format it))) × (place ≢ Some 0))
    ↔ (IsOkAnd second (λ it. walk_passes format it.walk Skipped ≡ 0)
    × IfSome place (AllHaveNames addressing bytes format))

-- The libraries at a cursor in strict mode, and in permissive mode, which skips those that are left
-- out, and one more exactly if strict mode has an error.
abbrev pub SkipsLeftOut : ℕ → Option (List LibraryValue) → Option (List LibraryValue) → Type 0
SkipsLeftOut skipped strict permissive =
    IsSomeAnd permissive
    (λ rows. skipped
    ≡ count_by (λ x. x.is_left_out) rows + (if is_some strict then 0 else 1))
