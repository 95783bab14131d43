-- Batches of the tables of a file: imports, exports, export addresses and blocks; and a call.
use Rattle.std.specs.Prelude.{◌≡◌, ℕ, ◌≤◌, true, List, [], ◌∷◌, ◌&&◌, ◌==◌, is_none}
use Rattle.std.specs.Prelude.{not, ◌+◌, ◌-◌, ◌++◌, take, length, max, Option, Some, None, Bool, is_some}
use Rattle.std.specs.Prelude.{option_map, Result, Ok, Err, IsSomeAnd, sum_by, unwrap_or, ◌^◌}
use Rattle.std.specs.Prelude.{if◌then◌else◌}
use Rattle.std.specs.{Bool.then_some, Int.from_bool}
use Rattle.goblin_base.specs.{declared.error.ErrorOf.ErrorOf, Answers.FirstFault}
use Rattle.goblin_base.specs.Reading.{IsRefused, Reading}
use Rattle.goblin_pe_sect.specs.BaseRelocations.{Block, block_at, block_items}
use Rattle.goblin_pe_import.specs.ImportLookup.{entries_32, entries_64}
use Rattle.goblin_pe_import.specs.declared.added.imports.ImportCursor.{ImportCursor}
use Rattle.goblin_pe_import.specs.{Imports.NumberedImport, TableSums.amount_of}
use Rattle.goblin_pe_import.specs.Steps.{AreCounted}
use Rattle.goblin_pe_sect.specs.Addresses.{MapOfAddresses}
use Rattle.goblin_pe_export.specs.ExportRecords.{ExportTables}
use Rattle.goblin_pe_export.specs.added.ExportWalks.{NumberedExport, numbered_from}
use Rattle.goblin_pe.specs.added.Layouts.{read_or, IsFileCursorCause, IsImportWalk}
use Rattle.goblin_pe.specs.added.Layouts.{file_cursor_left, file_ahead, file_cursor_ahead}
use Rattle.goblin_pe.specs.added.Layouts.{file_cursor_passes, file_passes}
use Rattle.goblin_pe_import.specs.Passed.{Count, HasRisen}
use Rattle.goblin_pe_import.specs.declared.import.passed.Passed.{Passed}
use Rattle.goblin_pe_import.specs.Passed.Count.{Skipped, Unmapped}
use Rattle.goblin_pe.specs.added.Layouts.{import_begin, address_part, file_imports_left}
use Rattle.readings.specs.Reads.{given, pick}
use Rattle.goblin_pe.specs.Whole.{TablePlaces, directory_offset, export_part, relocation_part}
use Rattle.goblin_pe.specs.declared.whole.Part.{Part}
use Rattle.goblin_pe.specs.declared.whole.Part.TheVariants as part
use Rattle.goblin_pe.specs.declared.added.file_imports.FileImports.{FileImports}
use Rattle.goblin_pe.specs.declared.added.file_imports.FileImports.TheVariants.{Narrow, Wide}
use Rattle.goblin_pe_c_tables.specs.declared.block.PeRelocationBlock.{PeRelocationBlock}
use Rattle.goblin_pe_c_tables.specs.Exports.{PeExport, ExportModel, export_for_c, export_model}
use Rattle.goblin_pe_c_tables.specs.ExportDirectories.{PeExportAddress}
use Rattle.goblin_pe_c_tables.specs.Imports.{PeImport}
pub use Rattle.goblin_pe_c_tables.specs.declared.next.PeImportCursor.{PeImportCursor}
use Rattle.goblin_pe_c_tables.specs.ExportDirectories.{DirectoryModel, addresses_for_c}
use Rattle.goblin_pe_c_tables.specs.ExportDirectories.{directory_for_c, no_export_directory}
use Rattle.goblin_pe_c_tables.specs.Imports.{GivesHere, ImportModel, import_for_c, import_model}
use Rattle.goblin_pe_c_tables.specs.Places.{map_at, places_from_c}
use Rattle.goblin_pe_c_headers.specs.Places.{placed_sections, image_places}
use Rattle.goblin_pe_c_headers.specs.{Items.without_causes, declared.batch.PeBatch.PeBatch}
use Rattle.goblin_pe_c_headers.specs.declared.fault.PeFault.{PeFault}
use Rattle.goblin_pe_c_headers.specs.{declared.image.PeImage.PeImage, Calls.ReportedAfter}
use Rattle.goblin_pe_c_headers.specs.Onward.{AtBatch, Batch, CountsRows, FillsNext, GivesOnward}
use Rattle.goblin_pe_c_headers.specs.Onward.{IsNextFault, Table, batch_of, no_batch, unrefused}
use Rattle.goblin_pe_c_headers.specs.Onward.{values_before}

-- what is said of a batch of a file, as its caller passes it and as it is filled, and of the answer
abbrev pub SaysBatch : Type 0 → Type 0 → Type 1
SaysBatch P R = MapOfAddresses → TablePlaces → List ℕ → Batch P R → Batch P R → PeBatch → Type 0

-- what is said of why a batch of a file is refused
abbrev pub SaysRefused : Type 0 → Type 0 → Type 1
SaysRefused P R = MapOfAddresses → TablePlaces → List ℕ → Batch P R → ErrorOf → Type 0

-- what a call says that gave `count` records: without room it does not say that it is done
abbrev pub at_room : ℕ → ℕ → ℕ → Bool → PeBatch
at_room room count unmapped is_done = batch_of count 0 unmapped (is_done && not (room == 0))

-- A table that is skipped as a whole counts where its walk begins, if there is room; the walk is
-- then at its end.
abbrev pub begins_skip : ℕ → ℕ → Bool
begins_skip position room = (position == 0) && not (room == 0)

abbrev pub skip_batch : ℕ → ℕ → PeBatch
skip_batch position room =
    batch_of 0 (from_bool (begins_skip position room)) 0 (not (room == 0))

abbrev pub after_skip : ℕ → ℕ → ℕ
after_skip position room = if begins_skip position room then 2 ^ 64 - 1 else position

abbrev pub SkipsTable : {R : Type 0} → Batch ℕ R → Batch ℕ R → PeBatch → Type 0
SkipsTable old new batch =
    let room = length old.records in
    (batch ≡ skip_batch old.position room)
    × (new ≡ record { position = after_skip old.position room; records = old.records })

-- ---- imports

abbrev pub cursor_from_c : PeImportCursor → ImportCursor
cursor_from_c p = record {
  first_record = p.first_record;
  next_record = then_some p.has_next p.next_record;
  library = p.library;
  name_rva = p.name_rva;
  rva = p.rva;
  table_offset = p.table_offset;
  place = then_some p.has_place p.place;
  pending = then_some p.has_address_table p.address_table;
  tested = then_some p.has_tested p.tested;
}

abbrev pub cursor_for_c : ImportCursor → PeImportCursor
cursor_for_c c = record {
  first_record = c.first_record;
  next_record = unwrap_or c.next_record 0;
  library = c.library;
  table_offset = c.table_offset;
  place = unwrap_or c.place 0;
  tested = unwrap_or c.tested 0;
  name_rva = c.name_rva;
  rva = c.rva;
  address_table = unwrap_or c.pending 0;
  is_begun = true;
  has_next = is_some c.next_record;
  has_place = is_some c.place;
  has_address_table = is_some c.pending;
  has_tested = is_some c.tested;
  reserved = 0 ∷ 0 ∷ 0 ∷ 0 ∷ 0 ∷ 0 ∷ 0 ∷ [];
}

-- the cursor at a position: the one that it says, or else where the imports begin
abbrev pub import_cursor : MapOfAddresses → TablePlaces → PeImportCursor → Reading ImportCursor
import_cursor m places p =
    pick p.is_begun (given (cursor_from_c p)) (import_begin m.opts m.addressing places)

abbrev pub import_table : MapOfAddresses → TablePlaces → List ℕ
    → Table PeImportCursor PeImport NumberedImport ImportModel
import_table m places bytes = record {
  view = import_model;
  value_of = import_for_c m.addressing.longest;
  from = λ p. option_map (file_cursor_left m places.magic bytes)
      ((import_cursor m places p).value bytes);
}

-- how many slots and records are still to be looked at from a position on
abbrev pub position_ahead : MapOfAddresses → TablePlaces → List ℕ → PeImportCursor → ℕ
position_ahead m places bytes p =
    amount_of (file_cursor_ahead m places.magic bytes) ((import_cursor m places p).value bytes)

-- nothing comes at a cursor: it is in no library, and no record and no address table are left
abbrev pub is_over : ImportCursor → Bool
is_over c = is_none c.place && is_none c.next_record && is_none c.pending

-- how much is still to be passed over from a position on
abbrev pub position_passes : MapOfAddresses → TablePlaces → List ℕ → PeImportCursor → Count → ℕ
position_passes m places bytes p k =
    amount_of (λ c. file_cursor_passes m places.magic bytes c k)
    ((import_cursor m places p).value bytes)

-- what a call says of a walk that has passed over so much, and what a batch says of it
abbrev pub passed_batch : ℕ → Passed → Bool → PeBatch
passed_batch count passed is_done = batch_of count passed.skipped passed.unmapped is_done

abbrev pub batch_count : Count → PeBatch → ℕ
batch_count Skipped batch = batch.skipped
batch_count Unmapped batch = batch.unmapped

-- A step looks at a slot, at a record, or at 64 slots of an address table. Of the steps are gone as
-- many as are no longer ahead. At the end none is ahead. What is no longer ahead of what is passed
-- over is counted.
abbrev pub GivesImports : ℕ → ℕ → SaysBatch PeImportCursor PeImport
GivesImports before after m places bytes old new batch =
    FillsNext (import_table m places bytes) (after ≡ 0)
    (λ left. AreCounted (Some before) (Some after)
    (position_ahead m places bytes old.position) (position_ahead m places bytes new.position)
    × ((batch.is_done ≡ true) → (position_ahead m places bytes new.position ≡ 0))
    × ((k : Count) → HasRisen 0 (batch_count k batch)
    (position_passes m places bytes old.position k)
    (position_passes m places bytes new.position k))) old new batch

-- Where the imports begin is refused, or else the very next import, and there is room for it.
abbrev pub IsImportsFault : SaysRefused PeImportCursor PeImport
IsImportsFault m places bytes old e =
    IsNextFault (import_cursor m places old.position) bytes (file_cursor_left m places.magic bytes)
    (IsFileCursorCause m places.magic bytes) old e

-- Whatever the records held up to `first`, they hold these imports after it, up to `last`.
abbrev pub Fills : Option ℕ → List PeImport → List PeImport → ℕ → ℕ → List NumberedImport → Type 0
Fills longest old new first last values =
    (last ≡ first + length values)
    × ((base : List PeImport) (before : List NumberedImport)
    → AtBatch import_model (import_for_c longest) base before old first
    → AtBatch import_model (import_for_c longest) base (before ++ values) new last)

-- `GivesHere` of the imports of a file
abbrev pub GivesInFile : FileImports → FileImports → (List NumberedImport → Type 0) → Type 0
GivesInFile (Narrow s) (Narrow t) Holds = GivesHere entries_32 s t Holds
GivesInFile (Wide s) (Wide t) Holds = GivesHere entries_64 s t Holds
GivesInFile s t Holds = ⊥

-- The walk gives the imports of a file from a position on.
pub record GoesOn (m : MapOfAddresses) (places : TablePlaces) (bytes : List ℕ)
    (p : PeImportCursor) (imports : FileImports) : Type 0 where
  pub walk : IsImportWalk m places.magic bytes imports
  pub left : (import_table m places bytes).from p ≡ Some (file_imports_left imports)
  pub ahead : position_ahead m places bytes p ≡ file_ahead imports
  pub passes : (k : Count) → position_passes m places bytes p k ≡ file_passes imports k

-- ---- exports

-- the exports of tables from a name pointer on
abbrev pub exports_in : MapOfAddresses → List ℕ → Part (ExportTables × List NumberedExport) → ℕ
    → List NumberedExport
exports_in m bytes p x = read_or [] (λ read. numbered_from m.addressing bytes read.0 x) p

abbrev pub pointers_in : Part (ExportTables × List NumberedExport) → ℕ
pointers_in p = read_or 0 (λ read. length read.0.export_name_pointer_table) p

-- a table of exports with names up to a limit; `left` are those from a position on
abbrev pub exports_table : {P : Type 0} → Option ℕ → (P → List NumberedExport)
    → Table P PeExport NumberedExport ExportModel
exports_table longest left = record {
  view = export_model;
  value_of = export_for_c longest;
  from = λ p. Some (unrefused (left p));
}

-- A step looks at one of the name pointers from the old position up to the new one, which is past
-- all of them at the end. Those that give no export lead nowhere.
pub record LooksAtPointers (before after pointers old new : ℕ) (batch : PeBatch) : Type 0 where
  pub further : old ≤ new
  pub within : new ≤ max old pointers
  pub looked : new + after ≡ old + before
  pub ended : batch.is_done ≡ true → pointers ≤ new
  pub skipped : batch.skipped ≡ 0
  pub unmapped : batch.unmapped ≡ new - old - batch.count

abbrev pub GivesExportsOf : MapOfAddresses → List ℕ → ℕ → ℕ
    → Part (ExportTables × List NumberedExport) → Batch ℕ PeExport → Batch ℕ PeExport → PeBatch
    → Type 0
GivesExportsOf m bytes before after part.Refused old new batch =
    (after ≡ before) × SkipsTable old new batch
GivesExportsOf m bytes before after p old new batch =
    FillsNext (exports_table m.addressing.longest (exports_in m bytes p)) (after ≡ 0)
    (λ left. LooksAtPointers before after (pointers_in p) old.position new.position batch)
    old new batch

abbrev pub GivesExports : ℕ → ℕ → SaysBatch ℕ PeExport
GivesExports before after m places bytes old new batch =
    IsSomeAnd ((export_part m.opts m.addressing places).value bytes)
    (λ p. GivesExportsOf m bytes before after p old new batch)

-- a batch of exports is refused, wherever it begins, if the export directory is
abbrev pub IsExportBatchFault : {R : Type 0} → SaysRefused ℕ R
IsExportBatchFault m places bytes old e =
    IsRefused (export_part m.opts m.addressing places) bytes e

-- ---- what the export directory says

-- its record, zeros where it is not read; the names of exports have no say in that
abbrev pub SaysDirectory : MapOfAddresses → TablePlaces → List ℕ → DirectoryModel → Type 0
SaysDirectory m places bytes directory =
    IsSomeAnd ((address_part m.opts m.addressing places).value bytes)
    (λ p. directory ≡ read_or no_export_directory (directory_for_c m.addressing.longest) p)

-- it is refused, for another reason than the number of its name pointers
abbrev pub IsAddressesFault : MapOfAddresses → TablePlaces → List ℕ → ErrorOf → Type 0
IsAddressesFault m places bytes e = IsRefused (address_part m.opts m.addressing places) bytes e

-- ---- entries of the export address table

-- The records hold the entries from the old index on, and from the new one on come the others.
abbrev pub GivesAddressesOf : MapOfAddresses → Part ExportTables → Batch ℕ PeExportAddress
    → Batch ℕ PeExportAddress → PeBatch → Type 0
GivesAddressesOf m part.Refused old new batch = SkipsTable old new batch
GivesAddressesOf m p old new batch =
    GivesOnward (read_or [] (addresses_for_c m.addressing) p) old new batch

abbrev pub GivesAddresses : SaysBatch ℕ PeExportAddress
GivesAddresses m places bytes old new batch =
    IsSomeAnd ((address_part m.opts m.addressing places).value bytes)
    (λ p. GivesAddressesOf m p old new batch)

-- ---- blocks of base relocations

-- the file offset of the base relocation directory; 0 if it has none
abbrev pub blocks_begin : MapOfAddresses → TablePlaces → ℕ
blocks_begin m places = unwrap_or (directory_offset m.addressing places 5) 0

-- blocks that follow one another from a file offset on, each with its offset
unfoldable pub placed : ℕ → List (Option Block) → List (Option (ℕ × Block))
placed p [] = []
placed p (Some b ∷ items) = Some (p, b) ∷ placed (p + b.size) items
placed p (None ∷ items) = None ∷ placed p items

-- what a directory that begins at a file offset has from an offset in it on: blocks, and at last
-- perhaps a refusal
abbrev pub blocks_from : ℕ → Part (List ℕ) → ℕ → List (Option (ℕ × Block))
blocks_from begin p x =
    read_or [] (λ directory. placed (begin + x) (without_causes (block_items directory x))) p

abbrev pub block_for_c : ℕ × Block → PeRelocationBlock
block_for_c x = record {
  rva = x.1.rva;
  size = x.1.size;
  reserved = 0;
  relocations = record { offset = x.0 + 8; end = x.0 + x.1.size; page_rva = x.1.rva };
}

-- which refusal comes at an offset, if one does
abbrev pub IsBlockCause : ℕ → Part (List ℕ) → ErrorOf → Type 0
IsBlockCause x part.Absent e = ⊥
IsBlockCause x (part.Read directory) e = block_at directory x ≡ Err e
IsBlockCause x part.Refused e = ⊥

abbrev pub block_table : ℕ → Part (List ℕ)
    → Table ℕ PeRelocationBlock (ℕ × Block) PeRelocationBlock
block_table begin p =
    record { view = λ r. r; value_of = block_for_c; from = λ x. Some (blocks_from begin p x) }

-- The directory was read, or not. The position moves by the sizes of the blocks that are given.
abbrev pub GivesBlocksIn : ℕ → Part (List ℕ) → Batch ℕ PeRelocationBlock
    → Batch ℕ PeRelocationBlock → PeBatch → Type 0
GivesBlocksIn begin part.Refused old new batch = SkipsTable old new batch
GivesBlocksIn begin p old new batch =
    FillsNext (block_table begin p) ⊥
    (λ left. (new.position
    ≡ old.position
    + sum_by (λ (x : ℕ × Block). x.1.size) (take batch.count (values_before left)))
    × CountsRows batch) old new batch

abbrev pub GivesBlocks : SaysBatch ℕ PeRelocationBlock
GivesBlocks m places bytes old new batch =
    IsSomeAnd ((relocation_part m.opts m.addressing places).value bytes)
    (λ p. GivesBlocksIn (blocks_begin m places) p old new batch)

-- The directory is refused, or else what comes next of it, and there is room for a block.
abbrev pub IsBlocksFault : SaysRefused ℕ PeRelocationBlock
IsBlocksFault m places bytes old e =
    IsNextFault (relocation_part m.opts m.addressing places) bytes
    (λ p. blocks_from (blocks_begin m places) p old.position)
    (IsBlockCause old.position) old e

-- ---- a call

-- A call has given what comes next of an image; or its section headers are not there, or what comes
-- next is refused, and everything is unchanged.
abbrev pub GivesBatch : PeImage
    → (MapOfAddresses → TablePlaces → Type 0)
    → (MapOfAddresses → TablePlaces → ErrorOf → Type 0) → Type 0 → Result Unit ErrorOf → Type 0
GivesBatch image Gives IsFault Left (Ok x) =
    let p = image_places image in
    IsSomeAnd ((placed_sections p).value image.bytes.now)
    (λ sections. Gives (map_at image.options p sections) (places_from_c p))
GivesBatch image Gives IsFault Left (Err e) =
    let p = image_places image in
    let sections = placed_sections p in
    FirstFault (sections.value image.bytes.now) (sections.IsCause image.bytes.now)
    (λ sections. IsFault (map_at image.options p sections) (places_from_c p)) e
    × Left

-- A call has given the records of a table that come next, and how many they are; or it is refused,
-- also before it begins, by this fault, and nothing else is changed than what is said.
abbrev pub WalksOver : {P R : Type 0} → PeFault → PeFault → PeImage → SaysBatch P R
    → SaysRefused P R → Batch P R → Batch P R → PeBatch → Type 0
WalksOver refusal fault image Gives IsFault old new batch =
    ReportedAfter refusal fault ((new ≡ old) × (batch ≡ no_batch))
    (GivesBatch image
    (λ m places. Gives m places image.bytes.now old new batch)
    (λ m places. IsFault m places image.bytes.now old) ((new ≡ old) × (batch ≡ no_batch)))
