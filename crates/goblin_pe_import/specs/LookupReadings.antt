-- The lookup table and the address table of a library, over a map of addresses to file offsets.
use Rattle.std.specs.Prelude.{ℕ, ◌+◌, Bool, true, cond, List, [], ◌∷◌, Option, Some, None}
use Rattle.goblin_base.specs.{declared.endian.Endian.TheVariants.Little, Reading.Reading}
use Rattle.goblin_base.specs.Tables.{Format}
use Rattle.goblin_base.specs.declared.error.CauseOf.TheVariants.{HintEntry, LookupEnd}
use Rattle.readings.specs.Reads.{◌beside◌, because, given, mapped, number_at, or_else}
use Rattle.readings.specs.Reads.{or_left_out, record_at, table, table_with_slots, text_within}
use Rattle.readings.specs.Reads.{up_to}
use Rattle.goblin_base.specs.declared.mapped.MappedEnd.{MappedEnd}
use Rattle.goblin_pe_import.specs.ImportEntries.{EntryValue, HintName, LookupEntry, entry_slots}
use Rattle.goblin_pe_import.specs.ImportEntries.LookupEntry.{ByName, ByOrdinal}
use Rattle.goblin_pe_sect.specs.Addresses.{Addressing}

-- the entry at an offset
abbrev pub entry_value_at : Format EntryValue → ℕ → Reading EntryValue
entry_value_at format p = record_at format.width format.value_of p

-- The hint at an offset, and the name after it, up to a limit. Permissive mode takes the empty name
-- if no text follows the hint.
unfoldable pub hint_name : Bool → Option ℕ → ℕ → Reading HintName
hint_name strict longest p =
    mapped (λ both. record { hint = both.0; name = both.1 })
    (because (HintEntry p) (number_at Little 2 p)
    beside or_else strict [] (text_within longest (p + 2)))

-- What is kept of an entry whose address has this offset: the hint and the name there, of what is
-- mapped up to an end, and up to a limit. Nothing is kept if the address has no offset.
abbrev pub kept_name : Bool → Option ℕ → ℕ → Option MappedEnd → Option ℕ
    → Reading (List LookupEntry)
kept_name strict longest rva end None = given []
kept_name strict longest rva end (Some p) =
    or_left_out strict (mapped (ByName rva) (up_to end (hint_name strict longest p)))

-- what is kept of an entry: one entry, or nothing
unfoldable pub kept_entry : Bool → Addressing → EntryValue → Reading (List LookupEntry)
kept_entry strict addressing entry =
    cond entry.is_ordinal (given (ByOrdinal entry.ordinal ∷ []))
    (kept_name strict addressing.longest entry.rva (addressing.end entry.rva)
    (addressing.offset entry.rva))

-- the entry of a lookup table at an offset
abbrev pub lookup_entry_at : Format EntryValue → ℕ → Reading EntryValue
lookup_entry_at format p = because (LookupEnd p) (entry_value_at format p)

-- The lookup table at an offset: what is kept of the entries before the first slot that is not in
-- the file or has number 0. Strict mode needs that slot. The indexes of the slots whose entries are
-- kept come with the table.
abbrev pub lookup_with_slots : Bool → Format EntryValue → Addressing → ℕ
    → Reading (List LookupEntry × List ℕ)
lookup_with_slots strict format addressing o =
    table_with_slots None (entry_slots format) strict (lookup_entry_at format)
    (kept_entry strict addressing) o

-- only the lookup table at an offset, without the indexes of the slots
abbrev pub lookup_table : Bool → Format EntryValue → Addressing → ℕ
    → Reading (List LookupEntry)
lookup_table strict format addressing o =
    table None (entry_slots format) strict (lookup_entry_at format) (kept_entry strict addressing) o

-- an entry's number, which an address table always keeps
abbrev pub entry_number : EntryValue → Reading (List ℕ)
entry_number entry = given (entry.number ∷ [])

-- The address table at an offset: the numbers before the first slot that is not in the file or has
-- number 0. That slot is needed in both modes.
abbrev pub address_table : Format EntryValue → ℕ → Reading (List ℕ)
address_table format o =
    table None (entry_slots format) true (entry_value_at format) entry_number o
