-- The entries of lookup tables and of address tables, and what a lookup table keeps of them.
use Rattle.std.specs.Prelude.{◌≡◌, ℕ, ◌%◌, ◌^◌, ◌==◌, nat_le, Bool, false, true, List, Option, None}
use Rattle.std.specs.Prelude.{Some}
use Rattle.goblin_base.specs.{declared.endian.Endian.TheVariants.Little, Bytes.number}
use Rattle.goblin_base.specs.{Record.record_at, Tables.Format, Tables.SlotFormat, Tables.ends_table}

-- Source: PE Format, "Import Lookup Table", "Hint/Name Table" and "Import Address Table".

-- What an entry says: its number; whether it imports by ordinal; the ordinal; and the address of a
-- hint and a name.
pub record EntryValue : Type 0 where
  pub number : ℕ
  pub is_ordinal : Bool
  pub ordinal : ℕ
  pub rva : ℕ

-- the entry of a number, which imports by ordinal if it is `first` or more
abbrev pub entry_value : ℕ → ℕ → EntryValue
entry_value first n = record {
  number = n;
  is_ordinal = nat_le first n;
  ordinal = n % 2 ^ 16;
  rva = n % 2 ^ 31;
}

-- entries of 32 bits, and entries of 64 bits; they import by ordinal if the highest bit is set
abbrev pub entries_32 : Format EntryValue
entries_32 = record {
  width = 4;
  value_of = λ bytes. entry_value (2 ^ 31) (number Little 4 bytes 0);
}

abbrev pub entries_64 : Format EntryValue
entries_64 = record {
  width = 8;
  value_of = λ bytes. entry_value (2 ^ 63) (number Little 8 bytes 0);
}

-- tables of such entries, up to one of number 0
abbrev pub entry_slots : Format EntryValue → SlotFormat EntryValue
entry_slots format = record { entry = format; is_last = λ entry. entry.number == 0 }

-- A call gives the entry in the slot at p, or nothing because the table ends there.
abbrev pub GivesSlot : {T V : Type 0} → (T → V) → SlotFormat V → List ℕ → ℕ → Option T → Type 0
GivesSlot view slots bytes p None =
    ends_table slots.is_last (record_at slots.entry.width slots.entry.value_of bytes p) ≡ true
GivesSlot view slots bytes p (Some x) =
    (record_at slots.entry.width slots.entry.value_of bytes p ≡ Some (view x))
    × (slots.is_last (view x) ≡ false)

-- a hint, and the name after it
pub record HintName : Type 0 where
  pub hint : ℕ
  pub name : List ℕ

-- an entry that a table keeps: an ordinal, or an address with the hint and the name there
pub data LookupEntry : Type 0 where
  ByOrdinal : ℕ → LookupEntry
  ByName : ℕ → HintName → LookupEntry
