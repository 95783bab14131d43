-- What strict mode reads of tables and of whole files, permissive mode reads, too.
use Rattle.std.proofs.Common.{◌≡◌, ℕ, Bool, true, false, cond, List, [], Option, Some, None, Result, ap, refl, sym, nat_eq, map, flat_map}
use Rattle.goblin_base.specs.{declared.error.ErrorOf.ErrorOf, Answers.◌>>=◌, Tables.Format}
use Rattle.goblin_base.specs.declared.permissive.ParseMode.TheVariants.{Permissive, Strict}
use Rattle.goblin_base.specs.Reading.{InModes, Reading, Reads, ReadsOrMemory, Repeats, RepeatsAs}
use Rattle.goblin_base.proofs.{Kept.Keeps, Steps.same_value}
use Rattle.readings.specs.Reads as reads
use Rattle.readings.specs.Reads.{given, in_its_place}
use Rattle.readings.proofs.Modes.{as-beside, as-mapped, as-then, repeats-same}
use Rattle.goblin_pe_sect.specs.declared.data_directories.DataDirectory.{DataDirectory}
use Rattle.goblin_pe_sect.specs.declared.options.ParseOptions.{ParseOptions}
use Rattle.goblin_pe_sect.specs.AddressReadings.{relocation_data}
use Rattle.goblin_pe_sect.specs.{declared.options.View.TheVariants.Sections, SectionTable.Section}
use Rattle.goblin_pe_sect.specs.Addresses.{Addressing}
use Rattle.goblin_pe_head.specs.{CoffHeader.symbols_end, HeaderReadings.pe_header}
use Rattle.goblin_pe_head.specs.declared.header.pe_header.Header.{Header}
use Rattle.goblin_pe_head.specs.PeHeader.{PeHeader, header_value}
use Rattle.goblin_pe_head.proofs.PermissiveReads.{repeats-header, sections_at-kept}
use Rattle.goblin_pe.specs.Whole.{Part, Absent, Refused, ListedParts, NumberedTables, TablePlaces, WholeFile, directory_at, entry_format, export_part, imports_in, listed_tables, lists_of, mapped_in, numbered_data_part, addressing_by, part_at, part_map, part_of, places_in, relocation_part, section_table_offset, sections_after, table_parts, whole_file, whole_in, whole_of, whole_with}
use Rattle.goblin_pe.specs.declared.whole.Part.TheVariants as part
use Rattle.goblin_pe_export.specs.ExportReadings.{numbered_read}
use Rattle.goblin_pe_import.specs.{ImportEntries.EntryValue, ImportRecords.NumberedLibrary}
use Rattle.goblin_pe_import.specs.Imports.{numbered_imports}
use Rattle.goblin_pe_import.specs.ImportReadings.{import_data, numbered_data, read_if, read_past_front}
use Rattle.goblin_pe_import.proofs.PermissiveReads.{libraries_at-repeats, numbered_libraries_at-repeats}
use Rattle.goblin_pe.specs.Modes.{ReadsInModes, in_mode, in_permissive_mode, is_front, unless_front}

-- ---- answers

module _ {X Y : Type 0} (view : X → Y) (becomes : Y → Y) (strict permissive : Reading Y)
    (bytes : List ℕ) (r q : Result X ErrorOf) (again : RepeatsAs becomes strict permissive) where
  pub in_modes : ReadsOrMemory view r strict bytes → ReadsOrMemory view q permissive bytes
      → InModes view becomes strict permissive bytes (r, q)
  in_modes h k = record { first = h; second = k; repeats = again.kept bytes }

  pub reads_in_modes : Reads view r strict bytes → Reads view q permissive bytes
      → ReadsInModes view becomes strict permissive bytes (r, q)
  reads_in_modes h k = record { first = h; second = k; repeats = again.kept bytes }

pub header_in_modes : (bytes : List ℕ) (strict permissive : Result Header ErrorOf)
    → Reads header_value strict (pe_header true) bytes
    → Reads header_value permissive (pe_header false) bytes
    → ReadsInModes header_value (λ h. h) (pe_header true) (pe_header false) bytes
    (strict, permissive)
header_in_modes bytes strict permissive h k =
    reads_in_modes header_value (λ h. h) (pe_header true) (pe_header false) bytes strict permissive
    repeats-header h k

-- ---- import data

past_front : {A : Type 0} (test : Bool) (read : ℕ → Reading (List A)) (bytes : List ℕ) (o : ℕ)
    (xs : List A) → (read o).value bytes ≡ Some xs
    → (read_if read (cond test None (Some o))).value bytes ≡ Some (cond test [] xs)
past_front true read bytes o xs is = refl
past_front false read bytes o xs is = is

front_or_not : {A : Type 0} (read again : ℕ → Reading (List A))
    → ((o : ℕ) → Repeats (read o) (again o)) → (bytes : List ℕ) (place : Option ℕ) (xs : List A)
    → (in_its_place true 0 place >>= λ o. (read_past_front true read o).value bytes) ≡ Some xs
    → (in_its_place false 0 place >>= λ o. (read_past_front false again o).value bytes)
    ≡ Some (unless_front place xs)
front_or_not read again repeats bytes None xs is = absurd cc
front_or_not read again repeats bytes (Some o) xs is =
    past_front (nat_eq o 0) again bytes o xs ((repeats o).kept bytes xs is)

-- import data of a directory that is not at the front of the file
pub repeats-import_data : (format : Format EntryValue) (addressing : Addressing) (rva : ℕ)
    → RepeatsAs (unless_front (addressing.offset rva)) (import_data true format addressing rva)
    (import_data false format addressing rva)
unfolding import_data
repeats-import_data format addressing rva = record {
  kept = λ bytes. front_or_not _ _ (libraries_at-repeats addressing format) bytes (addressing.offset rva);
}

repeats-numbered_data : (format : Format EntryValue) (addressing : Addressing) (rva : ℕ)
    → RepeatsAs (unless_front (addressing.offset rva)) (numbered_data true format addressing rva)
    (numbered_data false format addressing rva)
unfolding numbered_data
repeats-numbered_data format addressing rva = record {
  kept = λ bytes.
      front_or_not _ _ (numbered_libraries_at-repeats addressing format) bytes (addressing.offset rva);
}

-- what is known of a part that strict mode has
record IsPart {A : Type 0} (value : Option A) (p : Part A) : Type 0 where
  table : A
  is : value ≡ Some table
  read : p ≡ part.Read table

part_of-some : {A : Type 0} (value : Option A) (p : Part A) → part_of true value ≡ Some p
    → IsPart value p
part_of-some None p e = absurd cc
part_of-some (Some table) p e = record { table = table; is = refl; read = cc }

part_again : {A : Type 0} (table : A) (p : Part A) → p ≡ part.Read table
    → part_of false (Some table) ≡ Some p
part_again table p is = ap (λ q. Some q) (sym is)

part_of-kept : {A : Type 0} (value : Option A) → Keeps (part_of true value) (part_of false value)
part_of-kept value p e =
    let own = part_of-some value p e in
    rw own.is (part_again own.table p own.read)

repeats-part_at : {A : Type 0} (read : DataDirectory → Reading A)
    (directory : Option DataDirectory)
    → Repeats (part_at true read directory) (part_at false read directory)
repeats-part_at read None = repeats-same (given Absent)
repeats-part_at read (Some d) = record { kept = λ bytes. part_of-kept ((read d).value bytes) }

-- ---- imports

-- where the import directory is, by a map of addresses to file offsets
abbrev pub place_by : Addressing → Option DataDirectory → Option ℕ
place_by addressing imports = imports >>= λ directory. addressing.offset directory.virtual_address

module _ (format : Format EntryValue) (addressing : Addressing) (bytes : List ℕ) where
  abbrev pub libraries_of : Bool → DataDirectory → Reading (List NumberedLibrary)
  libraries_of strict d = numbered_data strict format addressing d.virtual_address

  imports_read : (d : DataDirectory) (p : Part (List NumberedLibrary))
      → IsPart ((libraries_of true d).value bytes) p
      → part_of false ((libraries_of false d).value bytes)
      ≡ Some (part_map (unless_front (addressing.offset d.virtual_address)) p)
  imports_read d p own =
      let again = repeats-numbered_data format addressing d.virtual_address in
      rw (again.kept bytes own.table own.is, own.read) refl

  numbered-kept : (asked : Bool) (imports : Option DataDirectory)
      (p : Part (List NumberedLibrary))
      → cond asked ((part_at true (libraries_of true) imports).value bytes) (Some Absent)
      ≡ Some p
      → cond asked ((part_at false (libraries_of false) imports).value bytes) (Some Absent)
      ≡ Some (part_map (unless_front (place_by addressing imports)) p)
  numbered-kept false imports p e =
      let is : Absent ≡ p = same_value Absent p e in
      rw (← is) refl
  numbered-kept true None p e =
      let is : Absent ≡ p = same_value Absent p e in
      rw (← is) refl
  numbered-kept true (Some d) p e =
      imports_read d p (part_of-some ((libraries_of true d).value bytes) p e)

-- a list that is made of a list, which makes nothing of nothing
unless_made : {A B : Type 0} (made : List A → List B) → made [] ≡ [] → (place : Option ℕ)
    (p : Part (List A))
    → part_map made (part_map (unless_front place) p) ≡ part_map (unless_front place) (part_map made p)
unless_made made none place Absent = refl
unless_made {A} {B} made none place (part.Read xs) =
    ap (λ (ys : List B). part.Read ys) (by (is_front place))
  where
    by : (front : Bool) → made (cond front [] xs) ≡ cond front [] (made xs)
    by true = none
    by false = refl
unless_made made none place Refused = refl

-- ---- imports from which no library is left out

module _ (opts : ParseOptions) (addressing : Addressing) (places : TablePlaces) where
  abbrev strictly : ParseOptions
  strictly = in_mode Strict opts

  abbrev permissively : ParseOptions
  permissively = in_mode Permissive opts

  abbrev place : Option ℕ
  place = place_by addressing (directory_at places 1)

  -- what permissive mode has of tables that strict mode has
  abbrev pub permissive_tables : NumberedTables → NumberedTables
  permissive_tables t = record t { imports = part_map (unless_front place) t.imports }

  pub repeats-table_parts : RepeatsAs permissive_tables (table_parts strictly addressing places)
      (table_parts permissively addressing places)
  unfolding table_parts numbered_data_part export_part relocation_part
  repeats-table_parts =
      as-mapped _ _ permissive_tables _ _
      (as-beside _ (λ x. x) _ _ _ _
      (as-beside (part_map (unless_front place)) (λ x. x) (numbered_data_part strictly addressing places)
      (numbered_data_part permissively addressing places) _ _
      (record {
        kept = λ bytes.
            numbered-kept (entry_format places.magic) addressing bytes opts.parse_imports (directory_at places 1);
      })
      (repeats-part_at (numbered_read addressing) (directory_at places 0)))
      (repeats-part_at (relocation_data addressing) (directory_at places 5)))
      (λ all. refl)

  -- what it has of their lists
  abbrev pub permissive_lists : ListedParts → ListedParts
  permissive_lists l =
      record l {
        imports = (part_map (unless_front place) l.imports.0, part_map (unless_front place) l.imports.1);
      }

  lists_again : (t : NumberedTables)
      → lists_of places.magic (permissive_tables t) ≡ permissive_lists (lists_of places.magic t)
  lists_again t =
      let made = unless_made (flat_map (numbered_imports (entry_format places.magic).width)) refl place t.imports in
      rw (
        unless_made (map (λ x. x.library)) refl place t.imports,
        made,
        unless_made (map (λ x. x.import)) refl place (imports_in places.magic t.imports),
      ) refl

-- ---- a whole file

module _ (opts : ParseOptions) (header : PeHeader) where
  pub sections_repeat : Repeats (sections_after true header) (sections_after false header)
  unfolding sections_after
  sections_repeat = record {
    kept = λ bytes.
        sections_at-kept (symbols_end header.coff_header) header.coff_header.number_of_sections
        bytes (section_table_offset header);
  }

  with_sections_repeat : (sections : List Section)
      → RepeatsAs (in_permissive_mode opts)
      (whole_with Sections (in_mode Strict opts) header sections)
      (whole_with Sections (in_mode Permissive opts) header sections)
  unfolding whole_with in_permissive_mode
  with_sections_repeat sections =
      let places = places_in header.optional_header in
      let m = addressing_by opts (mapped_in Sections header sections) places in
      as-mapped (whole_of header sections) (permissive_lists opts m places)
      (in_permissive_mode opts) (listed_tables (in_mode Strict opts) m places)
      (listed_tables (in_mode Permissive opts) m places)
      (as-mapped (lists_of places.magic) (permissive_tables opts m places) (permissive_lists opts m places)
      (table_parts (in_mode Strict opts) m places) (table_parts (in_mode Permissive opts) m places)
      (repeats-table_parts opts m places) (lists_again opts m places))
      (λ t. refl)

-- Permissive mode gives what strict mode gives, except imports whose directory is at the front of
-- the file.
pub repeats-whole_file : (opts : ParseOptions)
    → RepeatsAs (in_permissive_mode opts) (whole_file (in_mode Strict opts))
    (whole_file (in_mode Permissive opts))
unfolding whole_in
repeats-whole_file opts =
    as-then (in_permissive_mode opts) (pe_header true) (pe_header false)
    (λ h. reads.◌>>=◌ (sections_after true h) (whole_with Sections (in_mode Strict opts) h))
    (λ h. reads.◌>>=◌ (sections_after false h) (whole_with Sections (in_mode Permissive opts) h))
    repeats-header (λ h.
    as-then (in_permissive_mode opts) (sections_after true h) (sections_after false h)
    (whole_with Sections (in_mode Strict opts) h) (whole_with Sections (in_mode Permissive opts) h)
    (sections_repeat opts h) (with_sections_repeat opts h))

pub whole_in_modes : (opts : ParseOptions) (bytes : List ℕ)
    (strict permissive : Result WholeFile ErrorOf)
    → ReadsOrMemory (λ (whole : WholeFile). whole) strict (whole_file (in_mode Strict opts)) bytes
    → ReadsOrMemory (λ (whole : WholeFile). whole) permissive
    (whole_file (in_mode Permissive opts)) bytes
    → InModes (λ (whole : WholeFile). whole) (in_permissive_mode opts)
    (whole_file (in_mode Strict opts)) (whole_file (in_mode Permissive opts)) bytes
    (strict, permissive)
whole_in_modes opts bytes strict permissive h k =
    in_modes (λ (whole : WholeFile). whole) (in_permissive_mode opts)
    (whole_file (in_mode Strict opts)) (whole_file (in_mode Permissive opts)) bytes strict permissive
    (repeats-whole_file opts) h k
