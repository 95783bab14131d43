-- What strict mode reads of imports, permissive mode reads, too; and what it refuses not.
use Rattle.std.proofs.Common.{◌+◌, ◌≡◌, ℕ, Bool, true, false, cond, List, [], ◌∷◌, Option, None, Some, IsSome, length, option_map, refl}
use Rattle.goblin_base.specs.{Answers.◌>>=◌, Reading.Repeats}
use Rattle.goblin_base.specs.Tables as tables
use Rattle.goblin_base.specs.Tables.{Format, SlotFormat, ends_table, made_of, slot_at, slot_table, stop}
use Rattle.goblin_base.proofs.Below.{each_below-there, least-before}
use Rattle.readings.specs.Reads.{given, in_its_place, text_within, with_slots}
use Rattle.readings.specs.Reads as reads
use Rattle.goblin_base.specs.declared.mapped.MappedEnd.{MappedEnd}
use Rattle.readings.proofs.Modes.{repeats-beside, repeats-mapped, repeats-or_else, repeats-or_left_out, repeats-pick, repeats-same, repeats-table, repeats-table_with_slots, repeats-up_to}
use Rattle.goblin_pe_import.specs.ImportRecords.{address_table_rva, import_slots, lookup_offset}
use Rattle.goblin_pe_import.specs.ImportLookup.{EntryValue, entry_slots}
use Rattle.goblin_pe_import.specs.ImportEntries.LookupEntry.{ByOrdinal}
use Rattle.goblin_pe_sect.specs.AddressReadings.{name_at, offset_at}
use Rattle.goblin_pe_sect.specs.Addresses.{Addressing}
use Rattle.goblin_pe_import.specs.ImportReadings.{kept_library, libraries_at, import_record_at, library_of, lookup_if, numbered_libraries_at}
use Rattle.goblin_pe_import.specs.LookupReadings.{address_table, hint_name, kept_entry, kept_name, lookup_entry_at, lookup_table, lookup_with_slots}
use Rattle.goblin_pe_import.specs.ImportRecords.{ImportDirectoryEntry}

hint_repeats : (longest : Option ℕ) (p : ℕ)
    → Repeats (hint_name true longest p) (hint_name false longest p)
unfolding hint_name
hint_repeats longest p =
    repeats-mapped _ _ _
    (repeats-beside _ _ _ _ (repeats-same _)
    (repeats-or_else [] _ _ (repeats-same (text_within longest (p + 2)))))

name_repeats : (longest : Option ℕ) (rva : ℕ) (end : Option MappedEnd) (place : Option ℕ)
    → Repeats (kept_name true longest rva end place) (kept_name false longest rva end place)
name_repeats longest rva end None = repeats-same _
name_repeats longest rva end (Some p) =
    repeats-or_left_out _ _ (repeats-mapped _ _ _ (repeats-up_to end _ _ (hint_repeats longest p)))

module _ (addressing : Addressing) where
  entry_repeats : (entry : EntryValue)
      → Repeats (kept_entry true addressing entry) (kept_entry false addressing entry)
  unfolding kept_entry
  entry_repeats entry =
      repeats-pick entry.is_ordinal _ _ _ _ (repeats-same (given (ByOrdinal entry.ordinal ∷ [])))
      (name_repeats addressing.longest entry.rva (addressing.end entry.rva) (addressing.offset entry.rva))

  module _ (format : Format EntryValue) where
    pub lookup_table-repeats : (o : ℕ)
        → Repeats (lookup_table true format addressing o) (lookup_table false format addressing o)
    lookup_table-repeats o =
        repeats-table None (entry_slots format) (lookup_entry_at format) (lookup_entry_at format) _ _ o
        entry_repeats

    with_slots_repeat : (o : ℕ)
        → Repeats (lookup_with_slots true format addressing o)
        (lookup_with_slots false format addressing o)
    with_slots_repeat o =
        repeats-table_with_slots None (entry_slots format) (lookup_entry_at format)
        (lookup_entry_at format) _ _ o entry_repeats

    lookup_if_repeats : (place : Option ℕ)
        → Repeats (lookup_if true format addressing place) (lookup_if false format addressing place)
    unfolding lookup_if
    lookup_if_repeats None = repeats-same _
    lookup_if_repeats (Some o) = repeats-mapped _ _ _ (with_slots_repeat o)

    library_repeats : (r : ImportDirectoryEntry)
        → Repeats (library_of true format addressing r) (library_of false format addressing r)
    unfolding library_of
    library_repeats r =
        repeats-mapped _ _ _
        (repeats-beside _ _ _ _
        (repeats-beside _ _ _ _
        (repeats-or_else [] _ _ (repeats-same (name_at addressing r.name_rva)))
        (lookup_if_repeats (lookup_offset addressing r)))
        (repeats-same (reads.◌>>=◌ (offset_at addressing.offset (address_table_rva r)) (address_table format))))

    pub libraries_at-repeats : (o : ℕ)
        → Repeats (libraries_at true format addressing o) (libraries_at false format addressing o)
    libraries_at-repeats o =
        repeats-table None import_slots import_record_at import_record_at (kept_library true format addressing)
        (kept_library false format addressing) o
        (λ r. repeats-or_left_out _ _ (library_repeats r))

    pub numbered_libraries_at-repeats : (o : ℕ)
        → Repeats (numbered_libraries_at true format addressing o)
        (numbered_libraries_at false format addressing o)
    unfolding numbered_libraries_at
    numbered_libraries_at-repeats o =
        repeats-mapped _ _ _
        (repeats-table_with_slots None import_slots import_record_at import_record_at
        (kept_library true format addressing) (kept_library false format addressing) o
        (λ r. repeats-or_left_out _ _ (library_repeats r)))

-- ---- what permissive mode does not refuse

pub left-there : {A : Type 0} (item : Option A) → IsSome (tables.or_left_out false item)
left-there None = refl
left-there (Some x) = refl

-- an entry
pub entry-there : (addressing : Addressing) (entry : EntryValue) (bytes : List ℕ)
    → IsSome ((kept_entry false addressing entry).value bytes)
unfolding kept_entry
entry-there addressing entry bytes = by entry.is_ordinal
  where
    name : (place : Option ℕ)
        → IsSome ((kept_name false addressing.longest entry.rva (addressing.end entry.rva) place).value bytes)
    name None = refl
    name (Some p) = left-there _

    by : (test : Bool)
        → IsSome ((cond test (given (ByOrdinal entry.ordinal ∷ []))
        (kept_name false addressing.longest entry.rva (addressing.end entry.rva) (addressing.offset entry.rva))).value bytes)
    by true = refl
    by false = name (addressing.offset entry.rva)

-- a table whose entries it does not refuse
pub table-there : {V A : Type 0} (slots : SlotFormat V) (piece : V → Option (List A))
    (bytes : List ℕ) (o : ℕ) → ((v : V) → IsSome (piece v))
    → IsSome (slot_table slots false piece bytes o)
unfolding slot_table stop
table-there {V} slots piece bytes o there =
    each_below-there (made_of slots piece bytes o) (stop slots bytes o)
    (λ j below.
    in_slot (slot_at slots bytes o j)
    (least-before (λ i. ends_table slots.is_last (slot_at slots bytes o i)) (length bytes) j below))
  where
    in_slot : (slot : Option V) → ends_table slots.is_last slot ≡ false → IsSome (slot >>= piece)
    in_slot None e = absurd cc
    in_slot (Some v) e = there v

-- the lookup table at an offset, if there is one
pub lookup-there : (strict : Bool) (format : Format EntryValue) (addressing : Addressing)
    (bytes : List ℕ) → strict ≡ false → (at : Option ℕ)
    → IsSome ((lookup_if strict format addressing at).value bytes)
unfolding lookup_if
lookup-there true format addressing bytes permissive at = absurd cc
lookup-there false format addressing bytes permissive None = refl
lookup-there false format addressing bytes permissive (Some o) =
    made _ _ _
    (table-there (entry_slots format) (λ v. (kept_entry false addressing v).value bytes) bytes o
    (λ v. entry-there addressing v bytes))
  where
    made : {A B : Type 0} (kept : List ℕ) (h : A × List ℕ → B) (table : Option A) → IsSome table
        → IsSome (option_map h (with_slots kept table))
    made kept h None there = absurd cc
    made kept h (Some x) there = refl

pub name_strict : (strict : Bool) (name : Option (List ℕ)) → in_its_place strict [] name ≡ None
    → strict ≡ true
name_strict strict (Some x) e = absurd cc
name_strict true None e = refl
name_strict false None e = absurd cc
