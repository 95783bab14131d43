-- An address table that a walk over imports tests in pieces. Its numbers are not kept.
use Rattle.std.specs.Prelude.{◌≡◌, ◌+◌, ◌/◌, suc, ℕ, Bool, if◌then◌else◌, List, option_map}
use Rattle.std.specs.Prelude.{Option, Some, None, Result, Ok, Err}
use Rattle.goblin_base.specs.{declared.error.ErrorOf.ErrorOf, Reading.Reading, Tables.Format}
use Rattle.goblin_base.specs.Tables.{SlotFormat}
use Rattle.goblin_base.specs.Record.{record_at}
use Rattle.readings.specs.Reads.{◌>>=◌}
use Rattle.goblin_pe_sect.specs.{AddressReadings.offset_at, Addresses.Addressing}
use Rattle.goblin_pe_import.specs.{ImportEntries.EntryValue, LookupReadings.address_table}
use Rattle.goblin_pe_import.specs.{Steps.slots_ahead, TableSums.sum_of_slots}
use Rattle.goblin_pe_import.specs.Passed.{Count, table_counts}

-- the address table at an address; or, where a walk has tested a part of it, the rest, from the
-- slot at a place on
abbrev pub tested_table : Format EntryValue → Addressing → Option ℕ → ℕ → Reading (List ℕ)
tested_table format addressing None rva =
    offset_at addressing.offset rva >>= address_table format
tested_table format addressing (Some place) rva = address_table format place

-- how many slots there are yet to test
abbrev pub tested_slots : Format EntryValue → Addressing → List ℕ → Option ℕ → ℕ → ℕ
tested_slots format addressing bytes None rva = slots_ahead format bytes (addressing.offset rva)
tested_slots format addressing bytes (Some place) rva = slots_ahead format bytes (Some place)

-- in how many pieces of 64 slots they are tested; the slot of the stop belongs to the last
abbrev pub pieces : ℕ → ℕ
pieces n = n / 64 + 1

-- A call tests a piece of a table. It reaches the table's end; or the table goes on at a place; or
-- the table cannot be read.
abbrev pub TestsPiece : Format EntryValue → List ℕ → Reading (List ℕ) → ℕ
    → Result (Option ℕ) ErrorOf → Type 0
TestsPiece format bytes table slots (Ok None) =
    (option_map (λ _. tt {0}) (table.value bytes) ≡ Some (tt {0})) × (pieces slots ≡ 1)
TestsPiece format bytes table slots (Ok (Some place)) =
    (option_map (λ _. tt {0}) (table.value bytes)
    ≡ option_map (λ _. tt {0}) ((address_table format place).value bytes))
    × ((e : ErrorOf) → (address_table format place).IsCause bytes e → table.IsCause bytes e)
    × (pieces slots ≡ suc (pieces (slots_ahead format bytes (Some place))))
TestsPiece format bytes table slots (Err e) =
    (option_map (λ _. tt {0}) (table.value bytes) ≡ None) × table.IsCause bytes e
    × (pieces slots ≡ 1)

-- The place at which the test goes on of the address table of the next descriptor. Permissive mode
-- tests that table before its library's entries, strict mode an earlier one after them.
abbrev pub in_next : Bool → Option ℕ → Option ℕ
in_next strict None = None
in_next strict (Some place) = if strict then None else Some place

-- the amount of a first descriptor, whose address table is tested from a place on, and then
-- `later`; or `end` where the directory ends
abbrev pub from_first : {V : Type 0} → (V → Bool) → (V → ℕ) → (end later : ℕ) → Option V → ℕ
from_first is_last amount end later None = end
from_first is_last amount end later (Some v) = if is_last v then end else amount v + later

module _ {V : Type 0} (slots : SlotFormat V) where
  -- The amount of a directory from the next descriptor on. `whole` is that of one in which nothing
  -- has been tested yet; the amount of a descriptor depends on where the test of its address table
  -- begins.
  abbrev pub resumed : (whole : ℕ → ℕ) → (Option ℕ → V → ℕ) → List ℕ → Option ℕ → Option ℕ → ℕ
  resumed whole amount bytes None tested = 0
  resumed whole amount bytes (Some p) None = whole p
  resumed whole amount bytes (Some p) (Some place) =
      from_first slots.is_last (amount (Some place)) (whole p) (whole (p + slots.entry.width))
      (record_at slots.entry.width slots.entry.value_of bytes p)

  -- as a sum
  abbrev pub sum_resumed : (Option ℕ → V → ℕ) → List ℕ → Option ℕ → Option ℕ → ℕ
  sum_resumed amount bytes = resumed (sum_of_slots slots (amount None) bytes) amount bytes

  -- as a count, which is one more if the file cuts the directory
  abbrev pub counts_resumed : (Option ℕ → V → ℕ) → Count → List ℕ → Option ℕ → Option ℕ → ℕ
  counts_resumed amount k bytes = resumed (table_counts slots (amount None) k bytes) amount bytes
