-- What a reader of any table of a file needs, and the tables as walks.
use Rattle.std.specs.Prelude.{◌≡◌, ◌<◌, ◌/◌, ℕ, List, length, map, Option, Some, Result, Ok, Err}
use Rattle.std.specs.Prelude.{IfErr, IfOk, IsErrAnd, Bool, true, None, IfSome, IsSomeAnd}
use Rattle.std.specs.Prelude.{MatchOption}
use Rattle.goblin_base.specs.{declared.error.ErrorOf.ErrorOf, Answers.IsMemory}
use Rattle.goblin_base.specs.Reading.{IsRefused, Reading, ReadsOrMemory}
use Rattle.readings.specs.Reads.{mapped, slice_at, given, pick}
use Rattle.readings.specs.Walks.{IsWalkOf, GivesNext}
use Rattle.goblin_pe_sect.specs.declared.data_directories.DataDirectory.{DataDirectory}
use Rattle.goblin_pe_sect.specs.declared.options.ParseOptions.{ParseOptions}
use Rattle.goblin_pe_sect.specs.{declared.options.View.View, AddressReadings.stored_at}
use Rattle.goblin_pe_sect.specs.Options.{is_strict}
use Rattle.goblin_pe_sect.specs.Addresses.{Addressing, AreMany, MapOfAddresses, map_in, map_of}
use Rattle.goblin_pe_sect.specs.Addresses.{reads_strictly}
use Rattle.goblin_pe_sect.specs.SectionTable.{Section, recorded_sections, unnamed}
use Rattle.goblin_pe_head.specs.declared.header.pe_header.Header.{Header}
use Rattle.goblin_pe_head.specs.CoffHeader.{IsTooManySections}
use Rattle.goblin_pe_head.specs.PeHeader.{PeHeader, header_value}
use Rattle.goblin_pe_import.specs.ImportLookup.{entries_32, entries_64}
use Rattle.goblin_pe_import.specs.{Imports.NumberedImport, added.ImportCursors.first_import}
use Rattle.goblin_pe_import.specs.declared.added.imports.ImportCursor.{ImportCursor}
use Rattle.goblin_pe_import.specs.declared.added.imports.WalkedImport.{WalkedImport}
use Rattle.goblin_pe_import.specs.added.ImportWalks.{IsImportsCause, imports_bound, imports_left}
use Rattle.goblin_pe_import.specs.added.ImportWalks.{AreImportsOver, HasName, IsCursorCause}
use Rattle.goblin_pe_import.specs.added.ImportWalks.{cursor_left, cursor_of, imports_bytes}
use Rattle.goblin_pe_import.specs.added.ImportWalks.{imports_map, no_imports, walked_value}
use Rattle.goblin_pe_import.specs.added.StepsAhead.{EndsWithin, cursor_ahead}
use Rattle.goblin_pe_import.specs.Steps.{IsOut, LooksAt}
use Rattle.goblin_pe_import.specs.added.StepsAhead.{imports_ahead}
use Rattle.goblin_pe_import.specs.added.ImportWalks.{cursor_passes, passed_of, walk_passes}
use Rattle.goblin_pe_import.specs.Passed.{Count, HasRisen, count_of}
use Rattle.goblin_pe_import.specs.declared.import.passed.Passed.{Passed}
use Rattle.goblin_pe_import.specs.Steps.{GivesWithin, HasNotGrown, UnlessErr}
use Rattle.goblin_pe_export.specs.declared.added.exports.Exports.{Exports}
use Rattle.goblin_pe_export.specs.added.ExportAddresses.{export_addresses}
use Rattle.goblin_pe_export.specs.ExportRecords.{ExportTables, NumberedExport}
use Rattle.goblin_pe_export.specs.added.ExportWalks.{AreExportsOver, exports_left, exports_position}
use Rattle.goblin_pe_export.specs.added.ExportWalks.{walked_tables}
use Rattle.goblin_pe.specs.Whole.{Part, Absent, Refused, TablePlaces, TableReader, directory_at}
use Rattle.goblin_pe.specs.Whole.{mapped_in, part_at, places_in, sections_after, table_places}
use Rattle.goblin_pe.specs.Whole.{entry_format}
use Rattle.goblin_pe.specs.declared.whole.Part.TheVariants as part
pub use Rattle.goblin_pe.specs.declared.added.file_imports.FileImports.{FileImports}
use Rattle.goblin_pe.specs.declared.added.file_imports.FileImports.TheVariants.{Narrow, Wide}
pub use Rattle.goblin_pe.specs.declared.added.layout.Layout.{Layout}

-- ---- what a reader of any table needs

-- the bytes of the file
abbrev pub layout_bytes : Layout → List ℕ
layout_bytes l = l.bytes.now

-- its sections, without their names from the string table
abbrev pub layout_sections : Layout → List Section
layout_sections l = recorded_sections l.records

-- where the tables lie
abbrev pub layout_places : Layout → TablePlaces
layout_places l = table_places l.places

-- how addresses are mapped, and how the bytes there are read
abbrev pub layout_map : Layout → MapOfAddresses
layout_map l = map_of l.address_map

-- a table of a layout
abbrev pub layout_table : {A : Type 0} → TableReader A → Layout → Reading A
layout_table read l = let m = layout_map l in read m.opts m.addressing (layout_places l)

-- what `f` makes of a table that was read, and a default if it was not
abbrev pub read_or : {A B : Type 0} → B → (A → B) → Part A → B
read_or default f Absent = default
read_or default f (part.Read table) = f table
read_or default f Refused = default

-- memory is taken for an index of the sections of a file with this header: there are many sections
abbrev pub TakesIndex : PeHeader → Type 0
TakesIndex h = AreMany h.coff_header.number_of_sections

-- It is the layout of these bytes with this header, in a view. Its tables lie where the header
-- says. Its addresses are mapped by the sections of the file, and in the loader's view also by the
-- front of the file, with the header's file alignment and these options.
pub record IsLayoutOf (view : View) (opts : ParseOptions) (bytes : List ℕ) (header : Header)
    (l : Layout) : Type 0 where
  pub over : layout_bytes l ≡ bytes
  pub by : (layout_map l).opts ≡ opts
  pub placed : layout_places l ≡ places_in header.optional_header
  pub mapped : (sections : List Section)
      → (sections_after (is_strict opts.parse_mode) (header_value header)).value bytes
      ≡ Some sections
      → layout_map l
      ≡ map_in opts (mapped_in view (header_value header) sections)
      (places_in header.optional_header).file_alignment

-- A call gives the layout of these bytes with this header, in a view. It is refused as the sections
-- are, or because memory is refused for an index.
abbrev pub GivesLayout : View → ParseOptions → List ℕ → Header → Result Layout ErrorOf → Type 0
GivesLayout view opts bytes header result =
    let h = header_value header in
    let count = h.coff_header.number_of_sections in
    record {
      value : ReadsOrMemory layout_sections result
          (mapped (map unnamed) (sections_after (is_strict opts.parse_mode) h)) bytes;
      over : IfOk result (IsLayoutOf view opts bytes header);
      first : length bytes / 40 < count → IsErrAnd result (IsTooManySections count bytes);
      grown : IfErr result (λ e. IsMemory e → TakesIndex h);
    }

-- ---- tables that are bytes

-- the bytes of a directory, as far as they are in the file
abbrev pub directory_data : Addressing → DataDirectory → Reading (List ℕ)
directory_data addressing d =
    stored_at addressing d.virtual_address (λ o. slice_at o d.size)

-- the bytes of the directory at an index
unfoldable pub directory_part : ℕ → ParseOptions → Addressing → TablePlaces
    → Reading (Part (List ℕ))
directory_part index opts addressing places =
    part_at (is_strict opts.parse_mode) (directory_data addressing) (directory_at places index)

-- ---- tables as walks

-- A call gives what the reading says: a table as a walk, a table that is absent or refused, or a
-- refusal of the call itself.
abbrev pub PartWalks : {S A B : Type 0} → (S → List (Option A)) → (S → ErrorOf → Type 0)
    → (List A → B) → Result (Part S) ErrorOf → Reading (Part B) → List ℕ → Type 0
PartWalks left IsCause gather (Ok Absent) reading bytes = reading.value bytes ≡ Some Absent
PartWalks left IsCause gather (Ok (part.Read walk)) reading bytes =
    IsWalkOf (λ xs. part.Read (gather xs)) reading bytes (left walk) (IsCause walk)
PartWalks left IsCause gather (Ok Refused) reading bytes = reading.value bytes ≡ Some Refused
PartWalks left IsCause gather (Err e) reading bytes =
    IsRefused reading bytes e

-- ---- the walk over the imports, whose entries have four bytes or eight

-- the imports still to come
abbrev pub file_imports_left : FileImports → List (Option NumberedImport)
file_imports_left (Narrow imports) = imports_left entries_32 imports
file_imports_left (Wide imports) = imports_left entries_64 imports

-- the cause that is true if one of these is a refusal
abbrev pub IsFileImportsCause : FileImports → ErrorOf → Type 0
IsFileImportsCause (Narrow imports) e = IsImportsCause entries_32 imports e
IsFileImportsCause (Wide imports) e = IsImportsCause entries_64 imports e

-- an upper bound of the number of imports to come
abbrev pub file_imports_bound : FileImports → ℕ
file_imports_bound (Narrow imports) = imports_bound imports
file_imports_bound (Wide imports) = imports_bound imports

-- ---- the walk over the exports

-- what an export directory leads to, and the exports that are still to come
abbrev pub walked_exports : Exports → ExportTables × List NumberedExport
walked_exports walk = (walked_tables walk, exports_left walk)

-- what the export directory leads to, without the names of the exports
unfoldable pub address_part : ParseOptions → Addressing → TablePlaces
    → Reading (Part ExportTables)
address_part opts addressing places =
    part_at (is_strict opts.parse_mode) (export_addresses addressing) (directory_at places 0)

-- A walk over these bytes, with this map of addresses, before the first name pointer.
abbrev pub IsExportWalk : MapOfAddresses → List ℕ → Exports → Type 0
IsExportWalk m bytes walk = AreExportsOver bytes m walk × (exports_position walk ≡ 0)

-- ---- the imports at a cursor

-- the imports still to come at a cursor, with this magic and this map of addresses
abbrev pub file_cursor_left : MapOfAddresses → ℕ → List ℕ → ImportCursor
    → List (Option NumberedImport)
file_cursor_left m magic bytes c = cursor_left m (entry_format magic) bytes c

-- the cause that is true if one of these is a refusal
abbrev pub IsFileCursorCause : MapOfAddresses → ℕ → List ℕ → ImportCursor → ErrorOf → Type 0
IsFileCursorCause m magic bytes c e = IsCursorCause m (entry_format magic) bytes c e

-- the cursor of a walk
abbrev pub file_cursor : FileImports → ImportCursor
file_cursor (Narrow imports) = cursor_of imports
file_cursor (Wide imports) = cursor_of imports

-- the map of addresses that a walk uses
abbrev pub file_map : FileImports → MapOfAddresses
file_map (Narrow imports) = imports_map imports
file_map (Wide imports) = imports_map imports

-- the bytes that a walk is over
abbrev pub file_bytes : FileImports → List ℕ
file_bytes (Narrow imports) = imports_bytes imports
file_bytes (Wide imports) = imports_bytes imports

-- The walk is over these bytes, with this magic and this map of addresses, and holds the name that
-- its cursor says.
abbrev pub IsImportWalk : MapOfAddresses → ℕ → List ℕ → FileImports → Type 0
IsImportWalk m magic bytes (Narrow imports) =
    (entry_format magic ≡ entries_32) × AreImportsOver bytes m imports × HasName imports
IsImportWalk m magic bytes (Wide imports) =
    (entry_format magic ≡ entries_64) × AreImportsOver bytes m imports × HasName imports

-- It is such a walk, and it is at this cursor.
abbrev pub IsImportWalkAt : MapOfAddresses → ℕ → List ℕ → ImportCursor → FileImports → Type 0
IsImportWalkAt m magic bytes c imports =
    IsImportWalk m magic bytes imports × (file_cursor imports ≡ c)

-- what a walk has passed over, and how much it passes over to its end
abbrev pub file_passed : FileImports → Passed
file_passed (Narrow imports) = passed_of imports
file_passed (Wide imports) = passed_of imports

abbrev pub file_passes : FileImports → Count → ℕ
file_passes (Narrow imports) = walk_passes entries_32 imports.walk
file_passes (Wide imports) = walk_passes entries_64 imports.walk

-- how much it passes over from a cursor on
abbrev pub file_cursor_passes : MapOfAddresses → ℕ → List ℕ → ImportCursor → Count → ℕ
file_cursor_passes m magic bytes c = cursor_passes m (entry_format magic) bytes c

-- A call counts what it passes over, unless it is refused.
abbrev pub CountsFilePassed : FileImports → Option (Result WalkedImport ErrorOf) → FileImports
    → Type 0
CountsFilePassed s result t =
    UnlessErr result ((k : Count) → HasRisen (count_of k (file_passed s)) (count_of k (file_passed t))
    (file_passes s k) (file_passes t k))

-- A call of `next` gives the next import, or an error that is never Memory, or it has ended the
-- walk. It keeps the bytes and the map, and what is known of the walk.
abbrev pub GivesFileImport : FileImports → Option (Result WalkedImport ErrorOf) → FileImports
    → Type 0
GivesFileImport s result t =
    GivesNext walked_value file_imports_left IsFileImportsCause s result t
    × ((m : MapOfAddresses) (magic : ℕ) (bytes : List ℕ) → IsImportWalk m magic bytes s
    → IsImportWalk m magic bytes t)
    × IfSome result (λ r. IfErr r (λ e. ¬ IsMemory e))
    × MatchOption result (file_cursor t ≡ no_imports)
    (λ r. IfErr r (λ e. file_cursor t ≡ no_imports))
    × (file_bytes t ≡ file_bytes s)
    × (file_map t ≡ file_map s)
    × CountsFilePassed s result t

-- how many steps are ahead: slots and import descriptors that are still to be looked at
abbrev pub file_ahead : FileImports → ℕ
file_ahead (Narrow imports) = imports_ahead entries_32 imports
file_ahead (Wide imports) = imports_ahead entries_64 imports

-- how many steps are ahead from a cursor on
abbrev pub file_cursor_ahead : MapOfAddresses → ℕ → List ℕ → ImportCursor → ℕ
file_cursor_ahead m magic bytes c = cursor_ahead m (entry_format magic) bytes c

-- A call of `next_within`, with a budget of steps before and after the call. It keeps the bytes and
-- the map, and what is known of the walk.
pub record GivesFileWithin (s : FileImports) (old : Option ℕ)
    (result : Option (Result WalkedImport ErrorOf)) (t : FileImports) (new : Option ℕ) : Type 0
  where
    pub steps : GivesWithin walked_value file_imports_left IsFileImportsCause s result t
    pub walk : (m : MapOfAddresses) (magic : ℕ) (bytes : List ℕ) → IsImportWalk m magic bytes s
        → IsImportWalk m magic bytes t
    pub fault : IfSome result (λ r. IfErr r (λ e. ¬ IsMemory e))
    pub over : (file_bytes t ≡ file_bytes s) × (file_map t ≡ file_map s)
    pub passed : CountsFilePassed s result t
    pub spent : HasNotGrown old new
    pub looked : LooksAt result old new (file_ahead s) (file_ahead t)
    pub ended : EndsWithin result (file_cursor t) (IsOut new)
    pub fewer : IfSome result (λ r. file_imports_bound t < file_imports_bound s)
    pub strictly : IfSome result (λ r. IfErr r (λ e. reads_strictly (file_map s) ≡ true))

-- A call gives what begins at the cursor that `first` reads, or it is refused as `first` is.
abbrev pub GivesFirst : {S : Type 0} → (ImportCursor → S → Type 0) → Reading ImportCursor → List ℕ
    → Result S ErrorOf → Type 0
GivesFirst BeginsAt first bytes (Ok s) = IsSomeAnd (first.value bytes) (λ c. BeginsAt c s)
GivesFirst BeginsAt first bytes (Err e) = IsRefused first bytes e

-- ---- where a file's imports begin

abbrev pub begin_in : Bool → Addressing → Option DataDirectory → Reading ImportCursor
begin_in strict addressing None = given no_imports
begin_in strict addressing (Some directory) =
    first_import strict addressing directory.virtual_address

-- The cursor before the first import of the directory. It is the end if there is no directory, or
-- if the options do not ask for imports.
unfoldable pub import_begin : ParseOptions → Addressing → TablePlaces → Reading ImportCursor
import_begin opts addressing places =
    pick opts.parse_imports
    (begin_in (is_strict opts.parse_mode) addressing (directory_at places 1))
    (given no_imports)

-- the walk from that cursor on
abbrev pub PartBegins : MapOfAddresses → ℕ → List ℕ → ImportCursor → Part FileImports → Type 0
PartBegins m magic bytes c Absent = c ≡ no_imports
PartBegins m magic bytes c (part.Read imports) = IsImportWalkAt m magic bytes c imports
PartBegins m magic bytes c Refused = ⊥
