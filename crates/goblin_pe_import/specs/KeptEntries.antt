-- The entries that a lookup table keeps, from one of its slots on.
use Rattle.std.specs.Prelude.{ℕ, ◌+◌, ◌-◌, ◌/◌, Bool, List, [], length, Option, Some, None, Result}
use Rattle.std.specs.Prelude.{Ok, Err}
use Rattle.goblin_base.specs.{declared.error.ErrorOf.ErrorOf, Tables.Format}
use Rattle.readings.specs.Walks.{items_of, table_walk}
use Rattle.goblin_pe_sect.specs.Addresses.{Addressing}
use Rattle.goblin_pe_import.specs.ImportEntries.{EntryValue, LookupEntry, entry_slots}
use Rattle.goblin_pe_import.specs.ImportLookup.{entry_model}
use Rattle.goblin_pe_import.specs.LookupReadings.{kept_entry, lookup_table}
pub use Rattle.goblin_pe_import.specs.declared.import.kept.KeptEntry.{KeptEntry}

-- an entry that a lookup table keeps, with the index of its slot and the slot's place
pub record KeptValue : Type 0 where
  pub slot : ℕ
  pub place : ℕ
  pub entry : LookupEntry

abbrev pub kept_value : KeptEntry → KeptValue
kept_value kept = record {
  slot = kept.slot;
  place = kept.place;
  entry = entry_model kept.entry;
}

-- an entry in the slot at a place of a table at o, of entries of `width` bytes
abbrev pub kept_at : ℕ → ℕ → ℕ → LookupEntry → KeptValue
kept_at width o place entry =
    record { slot = (place - o) / width; place = place; entry = entry }

module _ (strict : Bool) (format : Format EntryValue) (addressing : Addressing)
    (bytes : List ℕ) where
  -- what is kept of the entry in the slot at a place of a table at o
  abbrev pub entry_items : ℕ → ℕ → EntryValue → List (Option KeptValue)
  entry_items o place v =
      items_of (kept_at format.width o place) ((kept_entry strict addressing v).value bytes)

  -- the kept entries of the lookup table at o, from the slot at a place on; none without a place
  unfoldable pub entries_from : ℕ → Option ℕ → List (Option KeptValue)
  entries_from o None = []
  entries_from o (Some place) =
      table_walk (entry_slots format) strict (entry_items o) bytes place

  -- the cause that is true if one of them is refused: that of a table that begins there
  abbrev pub IsEntriesCause : Option ℕ → ErrorOf → Type 0
  IsEntriesCause None e = ⊥
  IsEntriesCause (Some place) e = (lookup_table strict format addressing place).IsCause bytes e

-- where a walk over slots of `width` bytes goes on after it has yielded this
abbrev pub place_after : ℕ → Option (Result KeptEntry ErrorOf) → Option ℕ
place_after width None = None
place_after width (Some (Ok kept)) = Some (kept.place + width)
place_after width (Some (Err e)) = None

-- an upper bound of what comes from a slot or a descriptor on: one for each byte that is left, and
-- one refusal
abbrev pub slots_bound : List ℕ → Option ℕ → ℕ
slots_bound bytes None = 0
slots_bound bytes (Some place) = length bytes - place + 1
