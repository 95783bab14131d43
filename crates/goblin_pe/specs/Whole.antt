-- A whole file: its header, its sections, and the tables that its directories lead to.
use Rattle.std.specs.Prelude.{◌≡◌, ℕ, ◌+◌, ◌==◌, Bool, true, false, if◌then◌else◌, List, Option, Ok}
use Rattle.std.specs.Prelude.{Some, None, Result, Err, Vec, map, flat_map}
use Rattle.std.specs.Prelude.{◌&&◌, option_and_then, replicate, slice_get}
use Rattle.std.specs.Global.{Global}
use Rattle.goblin_base.specs.declared.error.ErrorOf.{ErrorOf}
use Rattle.goblin_base.specs.{declared.error.ErrorOf.TheVariants.Memory, Reading.Reading}
use Rattle.goblin_base.specs.Tables.{Format}
use Rattle.readings.specs.Reads.{◌>>=◌, ◌beside◌, given, mapped, pick, turned}
use Rattle.goblin_pe_sect.specs.declared.data_directories.DataDirectory.{DataDirectory}
use Rattle.goblin_pe_sect.specs.declared.options.ParseOptions.{ParseOptions}
use Rattle.goblin_pe_sect.specs.declared.options.View.{View}
use Rattle.goblin_pe_sect.specs.declared.options.View.TheVariants.{Sections}
use Rattle.goblin_pe_sect.specs.{AddressReadings.relocation_data, BaseRelocations.relocation_bytes}
use Rattle.goblin_pe_sect.specs.DataDirectories.{directory_or_zeros, zero_directory}
use Rattle.goblin_pe_sect.specs.Addresses.{Addressing, map_in}
use Rattle.goblin_pe_sect.specs.Options.{front_of, is_strict}
use Rattle.goblin_pe_sect.specs.SectionTable.{MappedSections, Section}
use Rattle.goblin_pe_head.specs.declared.optional_header.OptionalHeader.{OptionalHeader}
use Rattle.goblin_pe_head.specs.{HeaderReadings.pe_header, PeHeader.PeHeader}
use Rattle.goblin_pe_head.specs.{CoffHeader.symbols_end, CoffReadings.sections_at}
pub use Rattle.goblin_pe.specs.declared.whole.Part.{Part}
pub use Rattle.goblin_pe.specs.declared.whole.Part.TheVariants.{Absent, Refused}
use Rattle.goblin_pe.specs.declared.whole.Part.TheVariants as part
use Rattle.goblin_pe.specs.declared.whole.listed.ListedTables.{ListedTables}
use Rattle.goblin_pe.specs.declared.whole.places.Places.{Places}
use Rattle.goblin_pe_export.specs.ExportReadings.{numbered_read}
use Rattle.goblin_pe_export.specs.ExportRecords.{ExportRow, ExportTables, NumberedExport}
use Rattle.goblin_pe_export.specs.ExportRecords.{export_read_model, read_rows}
use Rattle.goblin_pe_import.specs.ImportEntries.{EntryValue}
use Rattle.goblin_pe_import.specs.ImportLookup.{entries_32, entries_64}
use Rattle.goblin_pe_import.specs.ImportReadings.{import_data, numbered_data}
use Rattle.goblin_pe_import.specs.ImportRecords.{ImportedLibrary, NumberedLibrary}
use Rattle.goblin_pe_import.specs.Imports.{ImportValue, IsImportListFault, NumberedImport}
use Rattle.goblin_pe_import.specs.Imports.{imports_of, numbered_imports}

-- ---- parts

-- a table as a part of a file; strict mode has no part for one that is refused
abbrev pub part_of : {A : Type 0} → Bool → Option A → Option (Part A)
part_of strict (Some table) = Some (part.Read table)
part_of true None = None
part_of false None = Some Refused

-- the table of a directory; absent without a directory
abbrev pub part_at : {A : Type 0} → Bool → (DataDirectory → Reading A) → Option DataDirectory
    → Reading (Part A)
part_at strict read None = given Absent
part_at strict read (Some directory) = turned (part_of strict) (read directory)

-- a table that is made from another part
abbrev pub part_then : {A B : Type 0} → Bool → (A → Option B) → Part A → Option (Part B)
part_then strict table Absent = Some Absent
part_then strict table (part.Read from) = part_of strict (table from)
part_then strict table Refused = Some Refused

-- a table that can always be made from another part
abbrev pub part_map : {A B : Type 0} → (A → B) → Part A → Part B
part_map table Absent = Absent
part_map table (part.Read from) = part.Read (table from)
part_map table Refused = Refused

-- If the table was read, this holds of it.
abbrev pub IfRead : {A : Type 0} → (A → Type 0) → Part A → Type 0
IfRead Holds Absent = Unit {0}
IfRead Holds (part.Read table) = Holds table
IfRead Holds Refused = Unit {0}

-- What becomes of a table that was asked for: it is read. If it is refused, strict mode refuses the
-- file, and permissive mode marks the table as refused. If memory is refused, both modes refuse the
-- file.
abbrev pub BecomesPart : {A : Type 0} → Bool → Result A ErrorOf → Result (Part A) ErrorOf → Type 0
BecomesPart strict (Ok table) result = result ≡ Ok (part.Read table)
BecomesPart strict (Err (Memory m)) result = result ≡ Err (Memory m)
BecomesPart true (Err e) result = result ≡ Err e
BecomesPart false (Err e) result = result ≡ Ok Refused

-- ---- where the tables lie

-- where the tables of a file lie, and the magic and the file alignment with which they are read
pub record TablePlaces : Type 0 where
  pub magic : ℕ
  pub file_alignment : ℕ
  pub directories : List DataDirectory

-- what contracts see of the reader's own struct
abbrev pub table_places : Places → TablePlaces
table_places t =
    record {
      magic = t.magic;
      file_alignment = t.file_alignment;
      directories = t.directories;
    }

-- the directory at an index, unless it is all zeros
unfoldable pub directory_at : TablePlaces → ℕ → Option DataDirectory
directory_at places i =
    option_and_then (λ (d : DataDirectory).
    if d.virtual_address == 0 && d.size == 0 then None else Some d) (slice_get places.directories i)

-- the file offset of a data directory, if there is one and it has one
abbrev pub offset_in : Addressing → Option DataDirectory → Option ℕ
offset_in addressing None = None
offset_in addressing (Some d) = addressing.offset d.virtual_address

abbrev pub directory_offset : Addressing → TablePlaces → ℕ → Option ℕ
directory_offset addressing places index = offset_in addressing (directory_at places index)

-- where the tables lie, from an optional header; without one there are no tables
unfoldable pub places_in : Option OptionalHeader → TablePlaces
places_in None =
    record { magic = 0; file_alignment = 0; directories = replicate 16 zero_directory }
places_in (Some h) = record {
  magic = h.standard_fields.magic;
  file_alignment = h.windows_fields.file_alignment;
  directories = map directory_or_zeros h.data_directories.data_directories;
}

-- the entries of the import tables: four bytes each if the magic is that of PE32, else eight
unfoldable pub entry_format : ℕ → Format EntryValue
entry_format magic = if magic == 0x10B then entries_32 else entries_64

-- the size of the headers in bytes, from an optional header; 0 without one
abbrev pub size_of_headers : Option OptionalHeader → ℕ
size_of_headers None = 0
size_of_headers (Some h) = h.windows_fields.size_of_headers

-- what maps the addresses of a file with this header and these sections, in a view
abbrev pub mapped_in : View → PeHeader → List Section → MappedSections
mapped_in view h sections =
    let front = front_of view (size_of_headers h.optional_header) in
    record { sections = sections; view = view; front = front }

-- where the addresses in tables lead; names are read whole
abbrev pub addressing_by : ParseOptions → MappedSections → TablePlaces → Addressing
addressing_by opts mapped places =
    (map_in opts mapped places.file_alignment).addressing

-- ---- the tables

-- what is read of the import directory; absent if the options do not ask for imports
abbrev pub imports_part : {A : Type 0} → ParseOptions → (DataDirectory → Reading A) → TablePlaces
    → Reading (Part A)
imports_part opts read places =
    pick opts.parse_imports (part_at (is_strict opts.parse_mode) read (directory_at places 1))
    (given Absent)

-- the import data
unfoldable pub import_data_part : ParseOptions → Addressing → TablePlaces
    → Reading (Part (List ImportedLibrary))
import_data_part opts addressing places =
    imports_part opts
    (λ d.
    import_data (is_strict opts.parse_mode) (entry_format places.magic) addressing
    d.virtual_address)
    places

-- the import data, each library with the index of its import descriptor
unfoldable pub numbered_data_part : ParseOptions → Addressing → TablePlaces
    → Reading (Part (List NumberedLibrary))
numbered_data_part opts addressing places =
    imports_part opts
    (λ d.
    numbered_data (is_strict opts.parse_mode) (entry_format places.magic) addressing
    d.virtual_address)
    places

-- the list of imports made from import data
unfoldable pub listed_imports_part : ParseOptions → TablePlaces → Part (List ImportedLibrary)
    → Option (Part (List ImportValue))
listed_imports_part opts places libraries =
    part_then (is_strict opts.parse_mode) (imports_of (entry_format places.magic).width) libraries

-- the cause that is true of import data from which no list can be made
abbrev pub IsListedImportsFault : Part (List ImportedLibrary) → ErrorOf → Type 0
IsListedImportsFault Absent e = ⊥
IsListedImportsFault (part.Read libraries) e = IsImportListFault libraries e
IsListedImportsFault Refused e = ⊥

-- the imports of numbered libraries, whose entries have the size that the magic says
abbrev pub imports_in : ℕ → Part (List NumberedLibrary) → Part (List NumberedImport)
imports_in magic libraries =
    part_map (flat_map (numbered_imports (entry_format magic).width)) libraries

-- the imports alone, each with the index of its library's import descriptor
unfoldable pub import_list : ParseOptions → Addressing → TablePlaces
    → Reading (Part (List NumberedImport))
import_list opts addressing places =
    mapped (imports_in places.magic) (numbered_data_part opts addressing places)

-- libraries and imports without the indexes of the import descriptors
abbrev pub without_indexes : Part (List NumberedLibrary) → Part (List ImportedLibrary)
without_indexes libraries = part_map (map (λ x. x.library)) libraries

abbrev pub without_numbers : Part (List NumberedImport) → Part (List ImportValue)
without_numbers imports = part_map (map (λ x. x.import)) imports

-- both lists of the imports
abbrev pub both_lists : ℕ → Part (List NumberedLibrary)
    → Part (List ImportedLibrary) × Part (List ImportValue)
both_lists magic libraries =
    (without_indexes libraries, without_numbers (imports_in magic libraries))

-- the export data, with the exports that it lists, each with its numbers
unfoldable pub export_part : ParseOptions → Addressing → TablePlaces
    → Reading (Part (ExportTables × List NumberedExport))
export_part opts addressing places =
    part_at (is_strict opts.parse_mode) (numbered_read addressing) (directory_at places 0)

-- the bytes of the base relocations
unfoldable pub relocation_part : ParseOptions → Addressing → TablePlaces
    → Reading (Part (List ℕ))
relocation_part opts addressing places =
    part_at (is_strict opts.parse_mode) (relocation_data addressing) (directory_at places 5)

-- what is kept of the tables of a file: imports, exports and base relocations
pub record TableParts (I E : Type 0) : Type 0 where
  pub imports : I
  pub exports : E
  pub relocations : Part (List ℕ)

-- the tables with the numbers of imports and exports
abbrev pub NumberedTables : Type 0
NumberedTables =
    TableParts (Part (List NumberedLibrary)) (Part (ExportTables × List NumberedExport))

unfoldable pub table_parts : ParseOptions → Addressing → TablePlaces → Reading NumberedTables
table_parts opts addressing places =
    mapped (λ all. record { imports = all.0.0; exports = all.0.1; relocations = all.1 })
    (numbered_data_part opts addressing places
    beside export_part opts addressing places
    beside relocation_part opts addressing places)

-- what a caller makes of the imports and of the exports
abbrev pub collected_tables : {I E : Type 0} → (Part (List NumberedLibrary) → I)
    → (Part (ExportTables × List NumberedExport) → E) → NumberedTables → TableParts I E
collected_tables imports_of exports_of tables = record {
  imports = imports_of tables.imports;
  exports = exports_of tables.exports;
  relocations = tables.relocations;
}

-- the lists of a file, without the numbers
abbrev pub ListedParts : Type 0
ListedParts = TableParts (Part (List ImportedLibrary) × Part (List ImportValue))
    (Part (ExportTables × List ExportRow))

abbrev pub lists_of : ℕ → NumberedTables → ListedParts
lists_of magic tables = collected_tables (both_lists magic) (part_map read_rows) tables

abbrev pub listed_tables : ParseOptions → Addressing → TablePlaces → Reading ListedParts
listed_tables opts addressing places =
    mapped (lists_of places.magic) (table_parts opts addressing places)

-- ---- the whole file

-- a whole file, its texts and slices as their bytes
pub record WholeFile : Type 0 where
  pub header : PeHeader
  pub sections : List Section
  pub import_data : Part (List ImportedLibrary)
  pub imports : Part (List ImportValue)
  pub export_data : Part ExportTables
  pub exports : Part (List ExportRow)
  pub relocations : Part (List ℕ)

-- a file of its header, its sections and its lists
abbrev pub whole_of : PeHeader → List Section → ListedParts → WholeFile
whole_of header sections tables = record {
  header = header;
  sections = sections;
  import_data = tables.imports.0;
  imports = tables.imports.1;
  export_data = part_map (λ read. read.0) tables.exports;
  exports = part_map (λ read. read.1) tables.exports;
  relocations = tables.relocations;
}

-- the file offset of the section table: after the optional header, whose size the COFF header gives
abbrev pub section_table_offset : PeHeader → ℕ
section_table_offset h = h.dos_header.pe_pointer + 24 + h.coff_header.size_of_optional_header

-- the sections after this header, with their names from the string table
unfoldable pub sections_after : Bool → PeHeader → Reading (List Section)
sections_after strict h =
    sections_at strict (symbols_end h.coff_header) h.coff_header.number_of_sections
    (section_table_offset h)

-- the header and the sections, which both modes require
unfoldable pub layout : ParseOptions → Reading (PeHeader × List Section)
layout opts =
    let strict = is_strict opts.parse_mode in
    pe_header strict >>= λ h. mapped (λ sections. (h, sections)) (sections_after strict h)

-- the file with this header and these sections, in a view
unfoldable pub whole_with : View → ParseOptions → PeHeader → List Section → Reading WholeFile
whole_with view opts h sections =
    let places = places_in h.optional_header in
    let addressing = addressing_by opts (mapped_in view h sections) places in
    mapped (whole_of h sections) (listed_tables opts addressing places)

-- what a reader makes of the header and the sections of a file, which both modes require
abbrev pub by_layout : {A : Type 0} → ParseOptions → (PeHeader → List Section → Reading A)
    → Reading A
by_layout opts read =
    let strict = is_strict opts.parse_mode in
    pe_header strict >>= λ h. sections_after strict h >>= read h

-- a whole file: its header, its sections and its tables, with addresses mapped as the view says
unfoldable pub whole_in : View → ParseOptions → Reading WholeFile
whole_in view opts = by_layout opts (whole_with view opts)

-- a whole file, with addresses mapped by its sections alone
abbrev pub whole_file : ParseOptions → Reading WholeFile
whole_file opts = whole_in Sections opts

-- ---- one table of a file

-- a reader of a table, from the options, the map of addresses and the places of the tables:
-- `import_list`, `export_part` and `relocation_part` are such readers
abbrev pub TableReader : Type 0 → Type 1
TableReader A = ParseOptions → Addressing → TablePlaces → Reading A

-- one table of a file; apart from it, only the header and the sections have to be read
abbrev pub file_table : {A : Type 0} → TableReader A → ParseOptions → Reading A
file_table read opts =
    by_layout opts (λ h sections.
    let places = places_in h.optional_header in
    read opts (addressing_by opts (mapped_in Sections h sections) places) places)

-- ---- what contracts see

-- a list that a part owns, as its items
abbrev pub items_part : {A : Type 0} → Part (Vec A Global) → Part (List A)
items_part part = part_map (λ v. v.items) part

-- import data and its imports, as their reader returns them
abbrev pub import_read_model : Part (List ImportedLibrary) × Part (Vec ImportValue Global)
    → Part (List ImportedLibrary) × Part (List ImportValue)
import_read_model read = (read.0, items_part read.1)

-- the tables that their reader returns
abbrev pub listed_model : ListedTables → ListedParts
listed_model t = record {
  imports = import_read_model t.imports;
  exports = part_map export_read_model t.exports;
  relocations = part_map relocation_bytes t.relocations;
}
