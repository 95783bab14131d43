-- The records of libraries, and batches of them.
use Rattle.std.specs.Prelude.{◌≡◌, ◌+◌, ◌⊎◌, IsSome, IsSomeAnd, Option, Some, ℕ, Bool, true, false}
use Rattle.std.specs.Prelude.{List, [], ◌∷◌, option_map, take, unwrap_or}
use Rattle.std.specs.Result.{result_ok}
use Rattle.goblin_pe_import.specs.declared.import.directory_entry as directory
use directory.ImportDirectoryEntry.{ImportDirectoryEntry}
use Rattle.goblin_pe_sect.specs.Addresses.{MapOfAddresses, reads_strictly}
use Rattle.goblin_pe_import.specs.added.ImportWalks.{library_items, library_name, no_imports}
use Rattle.goblin_pe_import.specs.{added.ImportWalks.record_counts, TableSums.amount_of}
use Rattle.goblin_pe_import.specs.Passed.{Count, HasRisen}
use Rattle.goblin_pe_import.specs.added.Libraries.{Awaits, row_counts, rows_ahead, rows_steps}
use Rattle.goblin_pe_import.specs.declared.added.imports.ImportCursor.{ImportCursor}
use Rattle.goblin_pe_import.specs.Steps.{AreCounted}
use Rattle.readings.specs.Walks.{until_refused}
use Rattle.goblin_pe_import.specs.added.Libraries.{IsCursorEndCause, LibraryValue, after_library}
use Rattle.goblin_pe_import.specs.added.Libraries.{cursor_libraries, inside_library, library_at}
use Rattle.goblin_pe.specs.Whole.{TablePlaces, entry_format}
use Rattle.goblin_pe_c_tables.specs.declared.library.PeLibrary.{PeLibrary}
use Rattle.goblin_pe_c_tables.specs.Batches.{PeImportCursor, SaysBatch, SaysRefused, cursor_for_c}
use Rattle.goblin_pe_c_tables.specs.Batches.{batch_count, import_cursor, import_table}
use Rattle.goblin_pe_c_tables.specs.Batches.{position_passes}
use Rattle.goblin_pe_c_headers.specs.Onward.{FillsNext, IsNextFault, Table, values_before}
use Rattle.goblin_pe_c_headers.specs.{Faults.status_of, declared.fault.PeFault.PeFault}
use Rattle.goblin_pe_c_headers.specs.Names.{cut_name}

-- a record of a library, its slice as a list
pub record LibraryModel : Type 0 where
  pub name : List ℕ
  pub name_fault : PeFault
  pub index : ℕ
  pub offset : ℕ
  pub imports : PeImportCursor
  pub entry : ImportDirectoryEntry
  pub is_skipped : Bool
  pub is_name_cut : Bool
  pub reserved : List ℕ

-- the record of a library, by a map of addresses; its name is empty where it can't be read
abbrev pub library_for_c : MapOfAddresses → LibraryValue → LibraryModel
library_for_c m x =
    let name = cut_name m.addressing.longest (unwrap_or (result_ok x.name) []) in
    record {
      name = name.0;
      name_fault = status_of x.name;
      index = x.index;
      offset = x.offset;
      imports = cursor_for_c (inside_library (reads_strictly m) m.addressing x);
      entry = x.entry;
      is_skipped = x.is_left_out;
      is_name_cut = name.1;
      reserved = 0 ∷ 0 ∷ [];
    }

abbrev pub library_model : PeLibrary → LibraryModel
library_model x = record {
  name = x.name.now;
  name_fault = x.name_fault;
  index = x.index;
  offset = x.offset;
  imports = x.imports;
  entry = x.«record»;
  is_skipped = x.is_skipped;
  is_name_cut = x.is_name_cut;
  reserved = x.reserved;
}

-- the libraries of a file, from any cursor of its imports on
abbrev pub library_table : MapOfAddresses → TablePlaces → List ℕ
    → Table PeImportCursor PeLibrary LibraryValue LibraryModel
library_table m places bytes = record {
  view = library_model;
  value_of = library_for_c m;
  from = λ p. option_map (cursor_libraries m (entry_format places.magic) bytes)
      ((import_cursor m places p).value bytes);
}

-- the position after libraries: before the record that follows the last one's
unfoldable pub position_after : PeImportCursor → List LibraryValue → PeImportCursor
position_after p [] = p
position_after p (library ∷ libraries) =
    position_after (cursor_for_c (after_library library)) libraries

-- how much the libraries count that come from a position on
abbrev pub position_rows : MapOfAddresses → TablePlaces → List ℕ → PeImportCursor → Count → ℕ
position_rows m places bytes p k =
    amount_of (rows_ahead m (entry_format places.magic) bytes k)
    ((import_cursor m places p).value bytes)

-- how many steps the libraries take that come from a position on
abbrev pub position_steps : MapOfAddresses → TablePlaces → List ℕ → PeImportCursor → ℕ
position_steps m places bytes p =
    amount_of (rows_steps m (entry_format places.magic) bytes)
    ((import_cursor m places p).value bytes)

-- A walk goes on at the position q. Or its steps have run out, and it is at the cursor there,
-- or in the address table of the entry that comes next.
abbrev pub GoesOnAt : MapOfAddresses → TablePlaces → List ℕ → (IsCut : Type 0) → PeImportCursor
    → PeImportCursor → Type 0
GoesOnAt m places bytes IsCut q p =
    (p ≡ q)
    ⊎ (IsCut × IsSomeAnd ((import_cursor m places q).value bytes)
    (λ c. (d : ImportCursor) × (Awaits c d × (p ≡ cursor_for_c d))))

-- A step looks at 64 slots of an address table; the last one of a table looks at its library's
-- entry, too. Of the steps are gone as many as are no longer ahead. At the end none is ahead. The new
-- position is the end if the call is done, or else after the libraries that are given. What is no
-- longer ahead of what counts is counted.
abbrev pub GivesLibraries : ℕ → ℕ → SaysBatch PeImportCursor PeLibrary
GivesLibraries before after m places bytes old new batch =
    FillsNext (library_table m places bytes) (after ≡ 0)
    (λ left. AreCounted (Some before) (Some after)
    (position_steps m places bytes old.position) (position_steps m places bytes new.position)
    × ((batch.is_done ≡ true) → (position_steps m places bytes new.position ≡ 0))
    × ((batch.is_done ≡ true) → (new.position ≡ cursor_for_c no_imports))
    × ((batch.is_done ≡ false) → GoesOnAt m places bytes (after ≡ 0)
    (position_after old.position (take batch.count (values_before left))) new.position)
    × ((k : Count) → HasRisen 0 (batch_count k batch) (position_rows m places bytes old.position k)
    (position_rows m places bytes new.position k))) old new batch

-- Where the imports begin is refused, or else no library comes next, since the directory reaches
-- the end of the file, and there is room for one.
abbrev pub IsLibrariesFault : SaysRefused PeImportCursor PeLibrary
IsLibrariesFault m places bytes old e =
    IsNextFault (import_cursor m places old.position) bytes
    (cursor_libraries m (entry_format places.magic) bytes) (IsCursorEndCause m bytes) old e

-- From the cursor of a library come its imports, and nothing else: what a walk over all imports
-- gives of its entry, wherever the test of its address table began. Where that needs the name of
-- the library and can't read it, this one does not need it.
unfoldable pub LibrariesEnd : Type 0
LibrariesEnd =
    (m : MapOfAddresses) (places : TablePlaces) (bytes : List ℕ) (first p : ℕ)
    (tested : Option ℕ) (r : ImportDirectoryEntry)
    → let strict = reads_strictly m in
    let format = entry_format places.magic in
    let library = library_at format m.addressing bytes first p tested r in
    IsSome ((library_name strict m.addressing r).value bytes)
    → (import_table m places bytes).from (library_for_c m library).imports
    ≡ Some (until_refused (library_items strict format m.addressing bytes tested library.index r))

-- Of each entry of the directory, a walk over all imports counts what the row of its library and a
-- walk from the row's cursor count together.
unfoldable pub LibrariesSum : Type 0
LibrariesSum =
    (m : MapOfAddresses) (places : TablePlaces) (bytes : List ℕ) (k : Count) (first p : ℕ)
    (tested : Option ℕ) (r : ImportDirectoryEntry)
    → let format = entry_format places.magic in
    let library = library_at format m.addressing bytes first p tested r in
    record_counts (reads_strictly m) format m.addressing bytes k tested r
    ≡ row_counts m format bytes k tested r
    + position_passes m places bytes (library_for_c m library).imports k
