-- What a walk over imports passes over: entries and libraries that it gives nothing of, in two
-- counts.
use Rattle.std.specs.Prelude.{◌≡◌, ◌≤◌, ℕ, ◌+◌, ◌-◌, ◌^◌, ◌&&◌, Bool, true, false, not, List, [], ◌∷◌}
use Rattle.std.specs.Prelude.{Option, Some, None, is_none, is_some, min, if◌then◌else◌}
use Rattle.std.specs.Int.{from_bool}
use Rattle.goblin_base.specs.Tables.{Format, SlotFormat, slot_at, stop}
use Rattle.goblin_pe_sect.specs.Addresses.{Addressing}
use Rattle.goblin_pe_import.specs.ImportEntries.{EntryValue, LookupEntry, entry_slots}
use Rattle.goblin_pe_import.specs.{LookupReadings.kept_entry, TableSums.amount_of}
use Rattle.goblin_pe_import.specs.TableSums.{sum_of_slots}
pub use Rattle.goblin_pe_import.specs.declared.import.passed.Passed.{Passed}

-- ---- the two counts

pub data Count : Type 0 where
  Skipped : Count
  Unmapped : Count

-- how much has been counted
abbrev pub count_of : Count → Passed → ℕ
count_of Skipped p = p.skipped
count_of Unmapped p = p.unmapped

-- before anything is passed over
abbrev pub nothing_passed : Passed
nothing_passed = record { skipped = 0; unmapped = 0 }

-- a count after n more; it stops at the largest number
abbrev pub risen : ℕ → ℕ → ℕ
risen old n = old + min n (2 ^ 64 - 1 - old)

-- A count has risen by what is no longer ahead.
abbrev pub HasRisen : ℕ → ℕ → ℕ → ℕ → Type 0
HasRisen old new before after = (after ≤ before) × (new ≡ risen old (before - after))

-- how much counts what is skipped as a whole: a library, or the rest of a table that the file ends
abbrev pub as_skipped : Count → ℕ
as_skipped Skipped = 1
as_skipped Unmapped = 0

-- How much a table at o counts: its entries before the stop, and one more if the slot of the stop
-- is not in the file.
unfoldable pub table_counts : {V : Type 0} → SlotFormat V → (V → ℕ) → Count → List ℕ → ℕ → ℕ
table_counts slots amount k bytes o =
    sum_of_slots slots amount bytes o
    + (if is_some (slot_at slots bytes o (stop slots bytes o)) then 0 else as_skipped k)

-- ---- the entries of a lookup table

-- whether an entry leads nowhere, because the address of its hint and name has no offset; nothing
-- is kept of it in either mode
abbrev pub is_unmapped : Addressing → EntryValue → Bool
is_unmapped addressing entry = not entry.is_ordinal && is_none (addressing.offset entry.rva)

-- whether an entry is read, but nothing is kept of it
abbrev pub is_left_out : Option (List LookupEntry) → Bool
is_left_out None = false
is_left_out (Some []) = true
is_left_out (Some (x ∷ xs)) = false

-- whether an entry counts; it counts once at most
abbrev pub counts : Bool → Addressing → List ℕ → Count → EntryValue → Bool
counts strict addressing bytes Skipped entry =
    is_left_out ((kept_entry strict addressing entry).value bytes)
    && not (is_unmapped addressing entry)
counts strict addressing bytes Unmapped entry = is_unmapped addressing entry

-- how much a lookup table counts, from the slot at a place on; nothing without a place
abbrev pub entries_ahead : Bool → Format EntryValue → Addressing → List ℕ → Count → Option ℕ → ℕ
entries_ahead strict format addressing bytes k place =
    amount_of
    (table_counts (entry_slots format)
    (λ entry. from_bool (counts strict addressing bytes k entry)) k bytes)
    place
