-- The walk over the libraries of an import directory: what is still to come.
use Rattle.std.specs.Prelude.{◌≡◌, ℕ, Bool, ◌&&◌, not, if◌then◌else◌, List, [], ◌∷◌, Option}
use Rattle.std.specs.Prelude.{Some, None, unwrap_or, Result, Ok, Err, IfErr, IfOk, IfSome}
use Rattle.std.specs.Prelude.{◌+◌, ◌<◌, ◌≤◌, ◌⊎◌, IsSome, IsSomeAnd, MatchOption, ⊤, is_none}
use Rattle.std.specs.{Option.ok_or, Result.result_map_both}
use Rattle.goblin_base.specs.declared.error.ErrorOf.{ErrorOf}
use Rattle.goblin_base.specs.{declared.error.ErrorOf.TheVariants.Malformed, Answers.IsMemory}
use Rattle.goblin_base.specs.{Parts.in_memory, Reading.Reading, Tables.Format}
use Rattle.goblin_base.specs.declared.error.CauseOf.TheVariants.{NameRead, Unmapped}
use Rattle.readings.specs.Reads.{given, table, text_within}
use Rattle.readings.specs.Walks.{GivesNext, from_slot, table_walk}
use Rattle.goblin_pe_sect.specs.Addresses.{Addressing, MapOfAddresses, map_of, reads_strictly}
use Rattle.goblin_pe_import.specs.ImportEntries.{EntryValue, entries_32, entries_64}
use Rattle.goblin_pe_import.specs.ImportReadings.{import_record_at}
use Rattle.goblin_pe_import.specs.ImportRecords.{address_table_rva, import_slots, lookup_offset}
use Rattle.goblin_pe_import.specs.ImportRecords.{is_last_record}
use Rattle.goblin_pe_import.specs.added.ImportWalks.{is_skipped, lacks_table, no_imports}
use Rattle.goblin_pe_import.specs.added.ImportWalks.{record_index}
use Rattle.goblin_pe_import.specs.added.ImportWalks.{ImportCursor}
use Rattle.goblin_pe_import.specs.ImportRecords.{ImportDirectoryEntry}
use Rattle.goblin_pe_import.specs.declared.added.library_walk.Libraries.{Libraries}
use Rattle.goblin_pe_import.specs.declared.added.library_walk.WalkedLibrary.{WalkedLibrary}
use Rattle.goblin_pe_import.specs.{KeptEntries.slots_bound, added.StepsAhead.EndsWithin}
use Rattle.goblin_pe_import.specs.Passed.{Count, HasRisen, Passed, as_skipped, count_of}
use Rattle.goblin_pe_import.specs.Steps.{GivesWithin, HasNotGrown, IsOut, LooksAt, UnlessErr}
use Rattle.goblin_pe_import.specs.added.TestedTables.{counts_resumed, pieces, sum_resumed}
use Rattle.goblin_pe_import.specs.added.TestedTables.{tested_slots}

-- ---- a library

-- the text at the offset of an address, up to a limit, or why there is none
abbrev pub text_or_cause : Option ℕ → List ℕ → ℕ → Option ℕ → Result (List ℕ) ErrorOf
text_or_cause longest bytes rva None = Err (Malformed (Unmapped rva))
text_or_cause longest bytes rva (Some p) =
    ok_or ((text_within longest p).value bytes) (Malformed (NameRead p))

-- the name at an address, or why there is none, in either mode
abbrev pub name_or_cause : Addressing → List ℕ → ℕ → Result (List ℕ) ErrorOf
name_or_cause addressing bytes rva =
    text_or_cause addressing.longest (in_memory (addressing.end rva) bytes) rva
    (addressing.offset rva)

-- the cursor before the descriptor at p, in a directory whose first one is at `first`
abbrev pub at_record : ℕ → ℕ → ImportCursor
at_record first p = record no_imports { first_record = first; next_record = Some p }

-- A library: the index and the offset of its import descriptor, and the descriptor itself; its
-- name; whether permissive mode leaves it out of the imports, because its address table cannot be
-- read; and the cursor before these.
pub record LibraryValue : Type 0 where
  pub index : ℕ
  pub offset : ℕ
  pub entry : ImportDirectoryEntry
  pub name : Result (List ℕ) ErrorOf
  pub is_left_out : Bool
  pub cursor : ImportCursor

-- the library of the descriptor at p, in a directory whose first one is at `first`
abbrev pub library_row : Addressing → List ℕ → ℕ → ℕ → ImportDirectoryEntry → Bool → LibraryValue
library_row addressing bytes first p r is_left_out = record {
  index = record_index first p;
  offset = p;
  entry = r;
  name = name_or_cause addressing bytes r.name_rva;
  is_left_out = is_left_out;
  cursor = at_record first p;
}

-- the same where the test of its address table begins at a place
abbrev pub library_at : Format EntryValue → Addressing → List ℕ → ℕ → ℕ → Option ℕ
    → ImportDirectoryEntry → LibraryValue
library_at format addressing bytes first p tested r =
    library_row addressing bytes first p r (lacks_table format addressing bytes tested r)

-- a library that a walk yields
abbrev pub library_value : WalkedLibrary → LibraryValue
library_value x = record {
  index = x.index;
  offset = x.offset;
  entry = x.import_directory_entry;
  name = result_map_both (λ s. s.now) (λ e. e) x.name;
  is_left_out = x.is_left_out;
  cursor = x.cursor;
}

-- The cursor in a library, from which its imports come, and nothing else. Permissive mode gives
-- none of a library without an address table.
abbrev pub inside_library : Bool → Addressing → LibraryValue → ImportCursor
inside_library strict addressing x =
    if x.is_left_out && not strict then no_imports
    else record no_imports {
      library = x.index;
      name_rva = x.entry.name_rva;
      rva = x.entry.import_address_table_rva;
      table_offset = unwrap_or (lookup_offset addressing x.entry) 0;
      place = lookup_offset addressing x.entry;
      pending = Some (address_table_rva x.entry);
    }

-- ---- all libraries

module _ (strict : Bool) (format : Format EntryValue) (addressing : Addressing)
    (bytes : List ℕ) (first : ℕ) where
  -- One library for each descriptor of a directory from a place on, before the first that is not in
  -- the file or ends the directory. Strict mode needs that descriptor.
  abbrev pub libraries_from_record : ℕ → List (Option LibraryValue)
  libraries_from_record p =
      table_walk import_slots strict
      (λ p r. Some (library_at format addressing bytes first p None r) ∷ []) bytes p

  -- the libraries from the next descriptor on, if there is one, of whose address table the slots
  -- before a place have been tested
  unfoldable pub libraries_next : Option ℕ → Option ℕ → List (Option LibraryValue)
  libraries_next None tested = []
  libraries_next (Some p) None = libraries_from_record p
  libraries_next (Some p) (Some place) =
      from_slot strict is_last_record
      (λ r. Some (library_at format addressing bytes first p (Some place) r) ∷ [])
      (libraries_from_record (p + 20)) ((import_record_at p).value bytes)

-- The place at which the test goes on of the address table of the next descriptor. If an earlier
-- table is yet to be tested, the place is in that one.
abbrev pub tested_at : ImportCursor → Option ℕ
tested_at c = if is_none c.pending then c.tested else None

-- the libraries whose descriptors come next at a cursor; a library that the cursor is in has come
abbrev pub cursor_libraries : MapOfAddresses → Format EntryValue → List ℕ → ImportCursor
    → List (Option LibraryValue)
cursor_libraries m format bytes c =
    libraries_next (reads_strictly m) format m.addressing bytes c.first_record c.next_record
    (tested_at c)

-- The descriptors of a directory from a place on, before the first that is not in the file or ends
-- the directory. Strict mode needs that descriptor.
abbrev pub directory_records : Bool → ℕ → Reading (List ImportDirectoryEntry)
directory_records strict p = table None import_slots strict import_record_at (λ r. given (r ∷ [])) p

-- the cause that is true if a refusal is among them: the directory reaches the end of the file
abbrev pub IsCursorEndCause : MapOfAddresses → List ℕ → ImportCursor → ErrorOf → Type 0
IsCursorEndCause m bytes c e =
    IsSomeAnd c.next_record (λ p. (directory_records (reads_strictly m) p).IsCause bytes e)

-- ---- the walk

-- entries of four bytes, or of eight
abbrev pub entries_by : Bool → Format EntryValue
entries_by is_narrow = if is_narrow then entries_32 else entries_64

abbrev pub libraries_format : Libraries → Format EntryValue
libraries_format it = entries_by it.is_narrow

abbrev pub libraries_map : Libraries → MapOfAddresses
libraries_map it = map_of it.finder

abbrev pub libraries_bytes : Libraries → List ℕ
libraries_bytes it = it.bytes.now

-- the cursor of the walk
abbrev pub libraries_cursor : Libraries → ImportCursor
libraries_cursor it = it.at

-- what is still to come
abbrev pub libraries_left : Libraries → List (Option LibraryValue)
libraries_left it =
    cursor_libraries (libraries_map it) (libraries_format it) (libraries_bytes it)
    (libraries_cursor it)

abbrev pub IsLibrariesCause : Libraries → ErrorOf → Type 0
IsLibrariesCause it e =
    IsCursorEndCause (libraries_map it) (libraries_bytes it) (libraries_cursor it) e

-- an upper bound of the number of libraries to come
abbrev pub libraries_bound : Libraries → ℕ
libraries_bound it = slots_bound (libraries_bytes it) (libraries_cursor it).next_record

-- the walk over these bytes, with this map of addresses and such entries
pub record AreLibrariesOver (m : MapOfAddresses) (format : Format EntryValue) (bytes : List ℕ)
    (it : Libraries) : Type 0 where
  pub bytes_are : libraries_bytes it ≡ bytes
  pub map_is : libraries_map it ≡ m
  pub format_is : libraries_format it ≡ format

-- It is such a walk, and it is at this cursor.
abbrev pub AreLibrariesAt : MapOfAddresses → Format EntryValue → List ℕ → ImportCursor → Libraries
    → Type 0
AreLibrariesAt m format bytes c it =
    AreLibrariesOver m format bytes it × (libraries_cursor it ≡ c)

-- the cursor after a library: before the descriptor that follows its own
abbrev pub after_library : LibraryValue → ImportCursor
after_library library = at_record library.cursor.first_record (library.offset + 20)

-- If the call gave no library, the walk is at the end.
abbrev pub AreAtEnd : Option (Result WalkedLibrary ErrorOf) → Libraries → Type 0
AreAtEnd result it =
    let c = libraries_cursor it in
    MatchOption result (c ≡ no_imports) (λ r. IfErr r (λ e. c ≡ no_imports))

-- ---- what it counts

abbrev pub libraries_passed : Libraries → Passed
libraries_passed it = it.passed

module _ (m : MapOfAddresses) (format : Format EntryValue) (bytes : List ℕ) (k : Count) where
  -- how much a descriptor counts: its library, if a walk over imports skips it
  abbrev pub row_counts : Option ℕ → ImportDirectoryEntry → ℕ
  row_counts tested r =
      if is_skipped (reads_strictly m) format m.addressing bytes tested r then as_skipped k else 0

  -- how much the descriptors count that come next at a cursor
  abbrev pub rows_ahead : ImportCursor → ℕ
  rows_ahead c = counts_resumed import_slots row_counts k bytes c.next_record (tested_at c)

abbrev pub libraries_ahead : Libraries → Count → ℕ
libraries_ahead it k =
    rows_ahead (libraries_map it) (libraries_format it) (libraries_bytes it) k
    (libraries_cursor it)

-- A call counts what is no longer ahead, unless it is refused.
abbrev pub CountsRowsOf : {X : Type 0} → Libraries → Option (Result X ErrorOf) → Libraries → Type 0
CountsRowsOf s result t =
    UnlessErr result ((k : Count) → HasRisen (count_of k (libraries_passed s))
    (count_of k (libraries_passed t)) (libraries_ahead s k) (libraries_ahead t k))

-- ---- what it looks at

module _ (m : MapOfAddresses) (format : Format EntryValue) (bytes : List ℕ) where
  -- Each piece of a library's address table is a step. Its descriptor is looked at with the last.
  abbrev pub row_steps : Option ℕ → ImportDirectoryEntry → ℕ
  row_steps tested r =
      pieces (tested_slots format m.addressing bytes tested (address_table_rva r))

  -- how many steps the descriptors take that come next at a cursor
  abbrev pub rows_steps : ImportCursor → ℕ
  rows_steps c = sum_resumed import_slots row_steps bytes c.next_record (tested_at c)

abbrev pub libraries_steps : Libraries → ℕ
libraries_steps it =
    rows_steps (libraries_map it) (libraries_format it) (libraries_bytes it)
    (libraries_cursor it)

-- what a look gives: the library that it comes to, if it does
abbrev pub given_of : {X : Type 0} → Option (Result (Option X) ErrorOf) → Option (Result X ErrorOf)
given_of None = None
given_of (Some (Ok None)) = None
given_of (Some (Ok (Some x))) = Some (Ok x)
given_of (Some (Err e)) = Some (Err e)

-- A walk is at the cursor c, or in the address table of the descriptor that comes next there.
abbrev pub Awaits : ImportCursor → ImportCursor → Type 0
Awaits c d =
    (d ≡ c)
    ⊎ (IsSome c.next_record × ((place : ℕ) × (d ≡ record no_imports {
      first_record = c.first_record;
      next_record = c.next_record;
      tested = Some place;
    })))

-- Where a call that is not refused moves the walk from a cursor: past the library that it gives. Or
-- to the end; or the next library is yet to come.
abbrev pub MovesTo : ImportCursor → Option (Result WalkedLibrary ErrorOf) → ImportCursor → Type 0
MovesTo c None d = (d ≡ no_imports) ⊎ Awaits c d
MovesTo c (Some (Ok x)) d = d ≡ after_library (library_value x)
MovesTo c (Some (Err e)) d = ⊤

-- A call with a budget of steps moves the walk s to t, and gives the next library, or none, or an
-- error. It keeps the bytes and the map.
pub record MovesWithin (s : Libraries) (old : Option ℕ)
    (result : Option (Result WalkedLibrary ErrorOf)) (t : Libraries) (new : Option ℕ) : Type 0 where
  pub steps : GivesWithin library_value libraries_left IsLibrariesCause s result t
  pub fault : IfSome result (λ r. IfErr r (λ e. ¬ IsMemory e))
  pub over : AreLibrariesOver (libraries_map s) (libraries_format s) (libraries_bytes s) t
  pub after : MovesTo (libraries_cursor s) result (libraries_cursor t)
  pub passed : CountsRowsOf s result t
  pub spent : HasNotGrown old new
  pub looked : LooksAt result old new (libraries_steps s) (libraries_steps t)
  pub bound : libraries_bound t ≤ libraries_bound s
  pub fewer : IfSome result (λ r. libraries_bound t < libraries_bound s)

-- A call of `next_within` does that until something comes, the walk ends, or the budget runs out.
pub record GivesLibraryWithin (s : Libraries) (old : Option ℕ)
    (result : Option (Result WalkedLibrary ErrorOf)) (t : Libraries) (new : Option ℕ) : Type 0 where
  pub moves : MovesWithin s old result t new
  pub ended : EndsWithin result (libraries_cursor t) (IsOut new)

-- A call of `next` gives the next library, and the walk is then after it. Or it has ended the walk.
-- Or it is refused in strict mode, because the directory reaches the end of the file. It keeps the
-- bytes and the map.
abbrev pub GivesNextLibrary : Libraries → Option (Result WalkedLibrary ErrorOf) → Libraries → Type 0
GivesNextLibrary s result t =
    GivesNext library_value libraries_left IsLibrariesCause s result t
    × IfSome result (λ r. IfErr r (λ e. ¬ IsMemory e))
    × AreLibrariesOver (libraries_map s) (libraries_format s) (libraries_bytes s) t
    × IfSome result (λ r. IfOk r (λ x. libraries_cursor t ≡ after_library (library_value x)))
    × AreAtEnd result t
    × CountsRowsOf s result t
