-- The walk over all imports: what is still to come.
use Rattle.std.specs.Prelude.{◌≡◌, ◌+◌, ◌-◌, ◌*◌, ◌/◌, not, [], ◌∷◌, map, Some, None, Ok, Err, ℕ}
use Rattle.std.specs.Prelude.{if◌then◌else◌, length, option_map, unwrap_or, is_none, MatchOption}
use Rattle.std.specs.Prelude.{Bool, ◌&&◌, true, List, ◌++◌, Option, Result, IfErr, IfSome}
use Rattle.std.specs.Prelude.{IsSomeAnd}
use Rattle.std.specs.Option.{option_len}
use Rattle.goblin_base.specs.{declared.error.ErrorOf.ErrorOf, Reading.Reading, Tables.Format}
use Rattle.goblin_base.specs.Answers.{FirstFault, IsMemory, all_of}
use Rattle.readings.specs.Reads.{◌>>=◌, given, or_else, pick}
use Rattle.readings.specs.Walks.{GivesNext, from_slot, refusal_of, table_walk, until_refused}
use Rattle.goblin_pe_sect.specs.declared.address_map.finder.Finder.{Finder}
use Rattle.goblin_pe_sect.specs.AddressReadings.{name_at, offset_at}
use Rattle.goblin_pe_sect.specs.Addresses.{Addressing, MapOfAddresses, map_of, reads_strictly}
use Rattle.goblin_pe_import.specs.{ImportEntries.EntryValue, ImportLookup.entry_model}
use Rattle.goblin_pe_import.specs.{ImportReadings.libraries_at, LookupReadings.address_table}
use Rattle.goblin_pe_import.specs.declared.added.imports.AsciiImports.{AsciiImports}
use Rattle.goblin_pe_import.specs.ImportRecords.{address_table_rva, import_slots, lookup_offset}
use Rattle.goblin_pe_import.specs.Imports.{NumberedImport, at_library, import_of}
use Rattle.goblin_pe_import.specs.ImportRecords.{ImportDirectoryEntry}
pub use Rattle.goblin_pe_import.specs.declared.added.imports.ImportCursor.{ImportCursor}
pub use Rattle.goblin_pe_import.specs.declared.added.imports.Imports.{Imports}
pub use Rattle.goblin_pe_import.specs.declared.added.imports.Walk.{Walk}
pub use Rattle.goblin_pe_import.specs.declared.added.imports.WalkedImport.{WalkedImport}
use Rattle.goblin_pe_import.specs.KeptEntries.{KeptValue, entries_from, IsEntriesCause, slots_bound}
use Rattle.goblin_pe_import.specs.Passed.{Count, HasRisen, Passed, as_skipped, count_of}
use Rattle.goblin_pe_import.specs.Passed.{entries_ahead}
use Rattle.goblin_pe_import.specs.{Steps.UnlessErr, ImportReadings.import_record_at}
use Rattle.goblin_pe_import.specs.ImportRecords.{is_last_record}
use Rattle.goblin_pe_import.specs.added.TestedTables.{counts_resumed, in_next, tested_table}

-- ---- the entries of a lookup table

-- an import that a walk yields
abbrev pub walked_value : WalkedImport → NumberedImport
walked_value x =
    at_library x.library (import_of x.dll.now x.slot x.slot_rva x.size (entry_model x.entry))

-- the import of an entry that the lookup table at o keeps, of the library of this name whose import
-- descriptor has this index, and whose address table is at `rva` and has entries of `width` bytes
abbrev pub kept_import : ℕ → ℕ → List ℕ → ℕ → ℕ → KeptValue → NumberedImport
kept_import width index dll rva o kept =
    at_library index (import_of dll kept.slot (rva + (kept.place - o)) width kept.entry)

-- the name of a descriptor's library
abbrev pub library_name : Bool → Addressing → ImportDirectoryEntry → Reading (List ℕ)
library_name strict addressing r = or_else strict [] (name_at addressing r.name_rva)

-- the address table of a descriptor
abbrev pub addresses_of : Format EntryValue → Addressing → ImportDirectoryEntry
    → Reading (List ℕ)
addresses_of format addressing r =
    offset_at addressing.offset (address_table_rva r) >>= address_table format

-- an address table that is still to be tested after its entries, which only strict mode does
abbrev pub pending_table : Bool → Format EntryValue → Addressing → Option ℕ → Option ℕ
    → Reading (List ℕ)
pending_table strict format addressing tested None = given []
pending_table strict format addressing tested (Some rva) =
    pick strict (tested_table format addressing tested rva) (given [])

-- the index of the descriptor at p in a directory whose first one is at `first`
abbrev pub record_index : ℕ → ℕ → ℕ
record_index first p = (p - first) / 20

-- ---- what comes from a cursor on

-- the cursor at the end
abbrev pub no_imports : ImportCursor
no_imports = record {
  first_record = 0;
  next_record = None;
  library = 0;
  name_rva = 0;
  rva = 0;
  table_offset = 0;
  place = None;
  pending = None;
  tested = None;
}

-- whether the address table of a descriptor cannot be read, or what is yet to be tested of it
abbrev pub lacks_table : Format EntryValue → Addressing → List ℕ → Option ℕ → ImportDirectoryEntry
    → Bool
lacks_table format addressing bytes tested r =
    is_none ((tested_table format addressing tested (address_table_rva r)).value bytes)

module _ (strict : Bool) (format : Format EntryValue) (addressing : Addressing)
    (bytes : List ℕ) where
  -- the imports of the entries from a place on
  abbrev pub imports_of_entries : ℕ → List ℕ → ℕ → ℕ → Option ℕ → List (Option NumberedImport)
  imports_of_entries index dll rva o place =
      map (option_map (kept_import format.width index dll rva o))
      (entries_from strict format addressing bytes o place)

  -- whether a walk skips a library, as it does in permissive mode if its address table cannot be
  -- read, or what is yet to be tested of it
  abbrev pub is_skipped : Option ℕ → ImportDirectoryEntry → Bool
  is_skipped tested r = not strict && lacks_table format addressing bytes tested r

  -- What comes of the library of the descriptor with an index: its name is needed (without it, only
  -- a refusal comes), then its imports come, then strict mode needs its address table. Permissive
  -- mode needs that table first, and leaves out the library without it.
  unfoldable pub library_items : Option ℕ → ℕ → ImportDirectoryEntry
      → List (Option NumberedImport)
  library_items tested index r =
      let table = lookup_offset addressing r in
      let o = unwrap_or table 0 in
      let addresses = pending_table strict format addressing None (Some (address_table_rva r)) in
      if is_skipped tested r then []
      else unwrap_or
      (option_map
      (λ dll. imports_of_entries index dll r.import_address_table_rva o table
      ++ refusal_of (addresses.value bytes))
      ((library_name strict addressing r).value bytes))
      (None ∷ [])

  -- the imports of the libraries whose descriptors are in this directory from a place on
  unfoldable pub imports_from_record : ℕ → ℕ → List (Option NumberedImport)
  imports_from_record first p =
      table_walk import_slots strict (λ p r. library_items None (record_index first p) r) bytes p

  -- the imports from the next descriptor on, if there is one, of whose address table the slots
  -- before a place have been tested
  unfoldable pub imports_next : ℕ → Option ℕ → Option ℕ → List (Option NumberedImport)
  imports_next first None tested = []
  imports_next first (Some p) None = imports_from_record first p
  imports_next first (Some p) (Some place) =
      from_slot strict is_last_record (library_items (Some place) (record_index first p))
      (imports_from_record first (p + 20)) ((import_record_at p).value bytes)

  -- the cause that is true if one of the libraries whose descriptors are in the directory from a
  -- place on is refused
  abbrev pub IsRecordsCause : ℕ → ErrorOf → Type 0
  IsRecordsCause p e = (libraries_at strict format addressing p).IsCause bytes e

  -- The cause that is true if a library that has a name is refused, or else what comes later: that
  -- of its lookup table, then that of its address table, then the later one.
  abbrev pub IsNamedCause : ImportDirectoryEntry → (IsLater : ErrorOf → Type 0) → ErrorOf → Type 0
  IsNamedCause r IsLater e =
      let table = lookup_offset addressing r in
      let addresses = pending_table strict format addressing None (Some (address_table_rva r)) in
      FirstFault (all_of (entries_from strict format addressing bytes (unwrap_or table 0) table))
      (IsEntriesCause strict format addressing bytes table)
      (λ _. FirstFault (addresses.value bytes) (addresses.IsCause bytes) (λ _. IsLater)) e

  -- what comes once the entries of a library have come: a refusal if its address table is still to
  -- be tested and cannot be read, then the imports from the next descriptor on
  abbrev pub later_items : Option ℕ → Option ℕ → ℕ → Option ℕ → List (Option NumberedImport)
  later_items tested pending first next =
      refusal_of ((pending_table strict format addressing tested pending).value bytes)
      ++ imports_next first next (in_next strict tested)

  -- the cause that is true if it is refused
  abbrev pub IsLaterCause : Option ℕ → Option ℕ → Option ℕ → ErrorOf → Type 0
  IsLaterCause tested pending next e =
      let table = pending_table strict format addressing tested pending in
      FirstFault (table.value bytes) (table.IsCause bytes)
      (λ _ e. IsSomeAnd next (λ p. IsRecordsCause p e)) e

  -- what is still to come at a cursor, if the library there has this name
  abbrev pub items_left : List ℕ → ImportCursor → List (Option NumberedImport)
  items_left dll c =
      until_refused
      (imports_of_entries c.library dll c.rva c.table_offset c.place
      ++ later_items c.tested c.pending c.first_record c.next_record)

-- an upper bound of what comes from the next descriptor on: for each descriptor that may be left, a
-- whole file of entries, a refusal of their table and one of the address table
abbrev pub bound_next : List ℕ → Option ℕ → ℕ
bound_next bytes next = (length bytes + 2) * slots_bound bytes next

-- the name of the library that a cursor is in; empty if it can't be read
abbrev pub cursor_dll : Addressing → List ℕ → ImportCursor → List ℕ
cursor_dll addressing bytes c = unwrap_or ((name_at addressing c.name_rva).value bytes) []

-- what is still to come at a cursor
abbrev pub cursor_left : MapOfAddresses → Format EntryValue → List ℕ → ImportCursor
    → List (Option NumberedImport)
cursor_left m format bytes c =
    items_left (reads_strictly m) format m.addressing bytes (cursor_dll m.addressing bytes c) c

-- the cause that is true if a refusal is among it, which happens only in strict mode
abbrev pub IsCursorCause : MapOfAddresses → Format EntryValue → List ℕ → ImportCursor → ErrorOf
    → Type 0
IsCursorCause m format bytes c e =
    let strict = reads_strictly m in
    (strict ≡ true)
    × FirstFault (all_of (entries_from strict format m.addressing bytes c.table_offset c.place))
    (IsEntriesCause strict format m.addressing bytes c.place)
    (λ _. IsLaterCause strict format m.addressing bytes c.tested c.pending c.next_record) e

-- what is still to come of a walk
abbrev pub walk_left : Format EntryValue → Walk → List (Option NumberedImport)
walk_left format w =
    let m = map_of w.finder in
    items_left (reads_strictly m) format m.addressing w.bytes.now w.dll.now w.at

abbrev pub IsWalkCause : Format EntryValue → Walk → ErrorOf → Type 0
IsWalkCause format w e = IsCursorCause (map_of w.finder) format w.bytes.now w.at e

-- In a library, the walk holds the name that its cursor says.
abbrev pub IsNamedAt : Option ℕ → List ℕ → List ℕ → Type 0
IsNamedAt None dll name = Unit {0}
IsNamedAt (Some place) dll name = dll ≡ name

abbrev pub IsNamed : Walk → Type 0
IsNamed w =
    IsNamedAt w.at.place w.dll.now (cursor_dll (map_of w.finder).addressing w.bytes.now w.at)

-- an upper bound of the number of imports to come; an address table that is still to be tested may
-- give one refusal
abbrev pub walk_bound : Walk → ℕ
walk_bound w =
    slots_bound w.bytes.now w.at.place + option_len w.at.pending
    + bound_next w.bytes.now w.at.next_record

-- what comes once the entries of the library that a walk is in have come
abbrev pub later_left : Format EntryValue → Walk → List (Option NumberedImport)
later_left format w =
    let m = map_of w.finder in
    until_refused
    (later_items (reads_strictly m) format m.addressing w.bytes.now w.at.tested w.at.pending
    w.at.first_record w.at.next_record)

-- the cause that is true if it is refused
abbrev pub IsLaterLeftCause : Format EntryValue → Walk → ErrorOf → Type 0
IsLaterLeftCause format w e =
    let m = map_of w.finder in
    (reads_strictly m ≡ true)
    × IsLaterCause (reads_strictly m) format m.addressing w.bytes.now w.at.tested w.at.pending
    w.at.next_record e

-- Once the entries of the library that the walk s is in have come, a call takes one look, and moves
-- the walk to t: into the next library, past it, or on in an address table. Or there is no other
-- library, or the call is refused.
abbrev pub GivesLibrary : {X : Type 0} → Format EntryValue → Walk → Option (Result X ErrorOf) → Walk
    → Type 0
GivesLibrary format s None t = later_left format s ≡ []
GivesLibrary format s (Some (Ok x)) t =
    (walk_left format t ≡ later_left format s)
    × ((e : ErrorOf) → IsWalkCause format t e → IsLaterLeftCause format s e)
GivesLibrary format s (Some (Err e)) t =
    (later_left format s ≡ None ∷ []) × IsLaterLeftCause format s e

-- ---- what a walk passes over: sums over the slots by which its imports are defined

module _ (strict : Bool) (format : Format EntryValue) (addressing : Addressing)
    (bytes : List ℕ) (k : Count) where
  -- how much a descriptor counts: a library that is skipped, whose entries are not looked at, or
  -- its lookup table
  unfoldable pub record_counts : Option ℕ → ImportDirectoryEntry → ℕ
  record_counts tested r =
      if is_skipped strict format addressing bytes tested r
      then as_skipped k
      else entries_ahead strict format addressing bytes k (lookup_offset addressing r)

  -- how much a directory counts, from the next descriptor on
  abbrev pub records_ahead : Option ℕ → Option ℕ → ℕ
  records_ahead next tested = counts_resumed import_slots record_counts k bytes next tested

-- how much a walk passes over from a cursor to its end
abbrev pub cursor_passes : MapOfAddresses → Format EntryValue → List ℕ → ImportCursor → Count → ℕ
cursor_passes m format bytes c k =
    entries_ahead (reads_strictly m) format m.addressing bytes k c.place
    + records_ahead (reads_strictly m) format m.addressing bytes k c.next_record
    (in_next (reads_strictly m) c.tested)

abbrev pub walk_passes : Format EntryValue → Walk → Count → ℕ
walk_passes format w k = cursor_passes (map_of w.finder) format w.bytes.now w.at k

-- A call counts what it passes over, unless it is refused.
abbrev pub CountsPassed : {X : Type 0} → Format EntryValue → Walk → Option (Result X ErrorOf) → Walk
    → Type 0
CountsPassed format s result t =
    UnlessErr result ((k : Count) → HasRisen (count_of k s.passed) (count_of k t.passed)
    (walk_passes format s k) (walk_passes format t k))

-- ---- the walk as callers see it

-- what it has passed over
abbrev pub passed_of : {T : Type 0} → Imports T → Passed
passed_of it = it.walk.passed

-- what is still to come
abbrev pub imports_left : {T : Type 0} → Format EntryValue → Imports T
    → List (Option NumberedImport)
imports_left format it = walk_left format it.walk

-- the cause that is true if a refusal is among it, which happens only in strict mode
abbrev pub IsImportsCause : {T : Type 0} → Format EntryValue → Imports T → ErrorOf → Type 0
IsImportsCause format it e = IsWalkCause format it.walk e

-- the cursor of the walk
abbrev pub cursor_of : {T : Type 0} → Imports T → ImportCursor
cursor_of it = it.walk.at

-- The walk holds the name that its cursor says.
abbrev pub HasName : {T : Type 0} → Imports T → Type 0
HasName it = IsNamed it.walk

-- the bytes that the walk is over
abbrev pub imports_bytes : {T : Type 0} → Imports T → List ℕ
imports_bytes it = it.walk.bytes.now

-- the finder of the walk, and its map of addresses
abbrev pub finder_of : {T : Type 0} → Imports T → Finder
finder_of it = it.walk.finder

abbrev pub imports_map : {T : Type 0} → Imports T → MapOfAddresses
imports_map it = map_of (finder_of it)

-- The walk is over these bytes, with this map of addresses.
abbrev pub AreImportsOver : {T : Type 0} → List ℕ → MapOfAddresses → Imports T → Type 0
AreImportsOver bytes m it = (imports_bytes it ≡ bytes) × (imports_map it ≡ m)

-- the walk over these bytes, with this map of addresses, at a cursor
pub record IsWalkAt {T : Type 0} (m : MapOfAddresses) (bytes : List ℕ) (c : ImportCursor)
    (it : Imports T) : Type 0 where
  pub over : AreImportsOver bytes m it
  pub at : cursor_of it ≡ c
  pub named : HasName it

-- an upper bound of the number of imports to come
abbrev pub imports_bound : {T : Type 0} → Imports T → ℕ
imports_bound it = walk_bound it.walk

-- an error that ends a walk: it comes only in strict mode, and is never Memory
abbrev pub IsWalkFault : Walk → ErrorOf → Type 0
IsWalkFault w e = (reads_strictly (map_of w.finder) ≡ true) × ¬ IsMemory e

-- A call of `next` gives the next import, or such an error, or it has ended the walk. It keeps the
-- bytes and the map, and counts what it passes over.
abbrev pub GivesImport : {T : Type 0} → Format EntryValue → Imports T
    → Option (Result WalkedImport ErrorOf) → Imports T → Type 0
GivesImport format s result t =
    GivesNext walked_value (imports_left format) (IsImportsCause format) s result t
    × (HasName s → HasName t)
    × IfSome result (λ r. IfErr r (IsWalkFault s.walk))
    × AreImportsOver (imports_bytes s) (imports_map s) t
    × MatchOption result (cursor_of t ≡ no_imports) (λ r. IfErr r (λ e. cursor_of t ≡ no_imports))
    × CountsPassed format s.walk result t.walk

-- the walk at another place of the library that it is in
abbrev pub walk_at : Walk → ℕ → Walk
walk_at w place = record w { at = record w.at { place = Some place } }

-- the walk that ASCII imports come from, as it was before them
abbrev pub ascii_walk : {T : Type 0} → AsciiImports T → Imports T
ascii_walk ascii = ascii.imports

-- the walk after the ASCII imports that have come from it
abbrev pub ascii_at : {T : Type 0} → AsciiImports T → Imports T
ascii_at ascii = record ascii.imports { walk = walk_at ascii.imports.walk ascii.place }

-- A call gives the next import of the walk, as `next` does. Or it gives nothing, and all stays as
-- it was.
abbrev pub GivesAscii : {T : Type 0} → Format EntryValue → AsciiImports T → Option WalkedImport
    → AsciiImports T → Type 0
GivesAscii format s None t = t ≡ s
GivesAscii format s (Some x) t =
    GivesImport format (ascii_at s) (Some (Ok x)) (ascii_at t)
    × (ascii_walk t ≡ ascii_walk s)
