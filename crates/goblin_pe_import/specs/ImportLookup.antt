-- What a lookup table and an address table keep, over a map of addresses to file offsets, and what
-- contracts see of their entries.
use Rattle.std.specs.Prelude.{ℕ, Bool, true, false, List, Option, map, option_to_list}
use Rattle.std.specs.declared.borrow.CowStr.{CowStr}
use Rattle.std.specs.declared.borrow.CowStr.TheVariants.{Borrowed, Owned}
use Rattle.goblin_base.specs.Tables.{Format, kept_slots}
use Rattle.goblin_pe_import.specs.ImportEntries.LookupEntry.{ByName, ByOrdinal}
pub use Rattle.goblin_pe_import.specs.ImportEntries.{EntryValue, HintName, LookupEntry, entries_32}
pub use Rattle.goblin_pe_import.specs.ImportEntries.{entries_64, entry_slots, entry_value}
use Rattle.goblin_pe_import.specs.LookupReadings.{kept_entry}
use Rattle.goblin_pe_import.specs.declared.import.lookup_table as lookup
use lookup.HintNameTableEntry.{HintNameTableEntry}
use lookup.SyntheticImportLookupTableEntry.{SyntheticImportLookupTableEntry}
use lookup.SyntheticImportLookupTableEntry.TheVariants as variant
use Rattle.goblin_pe_sect.specs.Addresses.{Addressing}

-- The indexes of the slots whose entries the lookup table at an offset keeps: one for each kept
-- entry.
abbrev pub lookup_slots : Bool → Format EntryValue → Addressing → List ℕ → ℕ → List ℕ
lookup_slots strict format addressing bytes o =
    kept_slots (entry_slots format)
    (λ entry. (kept_entry strict addressing entry).value bytes) bytes o

-- ---- as contracts see them: texts as their bytes

-- a hint and a name
abbrev pub hint_name_model : HintNameTableEntry → HintName
hint_name_model entry = record { hint = entry.hint; name = entry.name.now }

-- an entry that a lookup table keeps
abbrev pub entry_model : SyntheticImportLookupTableEntry → LookupEntry
entry_model (variant.OrdinalNumber ordinal) = ByOrdinal ordinal
entry_model (variant.HintNameTableRVA pair) = ByName pair.0 (hint_name_model pair.1)

-- what is kept of an entry: one entry, or nothing
abbrev pub kept_model : Option SyntheticImportLookupTableEntry → List LookupEntry
kept_model kept = map entry_model (option_to_list kept)

-- whether a text is borrowed, not a copy
abbrev pub is_borrowed_str : {Z : Type 0} → CowStr Z → Bool
is_borrowed_str (Borrowed r) = true
is_borrowed_str (Owned s) = false
