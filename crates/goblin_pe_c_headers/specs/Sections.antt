-- The rows of sections, as definitions.
use Rattle.std.specs.Prelude.{◌≡◌, IsSomeAnd, ℕ, Bool, if◌then◌else◌, List, Option, Some, None}
use Rattle.std.specs.Prelude.{Result, ◌+◌, ◌*◌, ◌/◌, ◌==◌, map, length, option_and_then}
use Rattle.std.specs.Prelude.{option_map, replicate, slice_range, take, unwrap_or}
use Rattle.std.specs.List.{range_with_len}
use Rattle.goblin_base.specs.declared.error.ErrorOf.{ErrorOf}
use Rattle.goblin_base.specs.{declared.endian.Endian.TheVariants.Little, Bytes.before_nul}
use Rattle.readings.specs.Reads.{◌>>=◌, taken, text_within}
use Rattle.goblin_pe_sect.specs.{Options.is_strict, SectionName.name_value}
use Rattle.goblin_pe_sect.specs.SectionTable.{Section, section_record}
use Rattle.goblin_pe_head.specs.{CoffHeader.symbols_end, TeHeader.section_moved}
use Rattle.goblin_pe_c_headers.specs.Onward.{PeBatch, Batch, GivesRows, no_batch}
use Rattle.goblin_pe_c_headers.specs.declared.cursor.PeCoffRelocationCursor.{PeCoffRelocationCursor}
use Rattle.goblin_pe_c_headers.specs.{Images.PeImage, declared.section.PeSection.PeSection}
use Rattle.goblin_pe_c_headers.specs.{Calls.ReadsWithout, Places.headers_there}
use Rattle.goblin_pe_c_headers.specs.Relocations.{relocations_begin}
use Rattle.goblin_pe_c_headers.specs.{Names.cut_name, Options.header_options, Options.longest_of}

-- the name that the eight bytes of a name lead to in the string table, whole or, where there is a
-- limit, cut there
unfoldable pub real_name_in : Bool → Option ℕ → List ℕ → ℕ → List ℕ → Option (List ℕ)
real_name_in strict longest bytes table name =
    option_and_then (λ place. (taken place >>= λ n. text_within longest (table + n)).value bytes)
    (name_value strict name)

-- what a row holds of a section; its real name is the name if that is from the string table
abbrev pub section_model : PeSection → Section
section_model s = record {
  name = s.stored_name;
  real_name = if s.has_long_name then Some s.name.now else None;
  virtual_size = s.virtual_size;
  virtual_address = s.virtual_address;
  size_of_raw_data = s.size_of_raw_data;
  pointer_to_raw_data = s.pointer_to_raw_data;
  pointer_to_relocations = s.pointer_to_relocations;
  pointer_to_linenumbers = s.pointer_to_linenumbers;
  number_of_relocations = s.number_of_relocations;
  number_of_linenumbers = s.number_of_linenumbers;
  characteristics = s.characteristics;
}

-- a row: a section, its name and whether that is cut, its index, and where its relocations begin
pub record SectionRow : Type 0 where
  pub section : Section
  pub name : List ℕ × Bool
  pub index : ℕ
  pub relocations : PeCoffRelocationCursor
  pub reserved : List ℕ

abbrev pub row_model : PeSection → SectionRow
row_model s = record {
  section = section_model s;
  name = (s.name.now, s.is_name_cut);
  index = s.index;
  relocations = s.relocations;
  reserved = s.reserved;
}

-- the name from the string table of an image, if these eight bytes lead to one
abbrev pub long_name : PeImage → List ℕ → Option (List ℕ)
long_name image name =
    real_name_in (is_strict (header_options image.options).parse_mode) (longest_of image.options)
    image.bytes.now (symbols_end image.coff_header) name

-- how far the sections of an image moved to the front: those of a Terse Executable did
abbrev pub displacement_of : PeImage → Option ℕ
displacement_of image = if image.kind == 3 then Some image.moved_by else None

-- the row of the section header with these bytes; its name is from the string table, or else the
-- bytes at the front of the header before a NUL, cut at the limit
abbrev pub row_of : PeImage → ℕ → List ℕ → SectionRow
row_of image i header =
    let s = section_moved (displacement_of image) (section_record Little header) in
    let long = long_name image s.name in
    let longest = longest_of image.options in
    let name = cut_name longest (unwrap_or long (before_nul (take 8 header))) in
    record {
      section = record s { real_name = option_map (λ t. (cut_name longest t).0) long };
      name = name;
      index = i;
      relocations = relocations_begin s;
      reserved = replicate 6 0;
    }

abbrev pub section_rows : PeImage → List ℕ → List SectionRow
section_rows image headers =
    map (λ i. row_of image i (slice_range headers (40 * i) (40 * i + 40)))
    (range_with_len 0 (length headers / 40))

-- A call has given the rows of an image's sections that come next; or its section headers are not
-- there.
abbrev pub ReadsSections : PeImage → Batch ℕ PeSection → Batch ℕ PeSection → PeBatch
    → Result Unit ErrorOf → Type 0
ReadsSections image old new batch result =
    ReadsWithout (headers_there image.section_count image.section_table) image.bytes.now
    (λ headers. GivesRows row_model (section_rows image headers) old new batch)
    ((new ≡ old) × (batch ≡ no_batch)) result

-- The rows of an image hold these sections: its section headers are there.
abbrev pub RowsHold : PeImage → List Section → Type 0
RowsHold image sections =
    IsSomeAnd ((headers_there image.section_count image.section_table).value image.bytes.now)
    (λ headers. map (λ (r : SectionRow). r.section) (section_rows image headers) ≡ sections)
