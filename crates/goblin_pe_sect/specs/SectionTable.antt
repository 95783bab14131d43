-- What contracts see of a section, and the section header.
use Rattle.std.specs.Prelude.{◌≡◌, ℕ, ◌+◌, ◌<◌, Bool, List, [], ◌∷◌, Option, None, Some, nat_eq}
use Rattle.std.specs.Prelude.{◌++◌, replicate, slice_range}
use Rattle.std.specs.{Option.option_eq, Ordering.eq_of_both, Ordering.on}
use Rattle.std.specs.Cmp.Lexicographic.{options_equiv, pointwise}
use Rattle.std.specs.Cmp.{IsPartialEquivalence, and_per, on_per, partial_equiv_from_equiv}
use Rattle.std.proofs.lemmas.Cmp.{nat_list_eq_equiv}
use Rattle.goblin_base.specs.{declared.endian.Endian.Endian, declared.error.ErrorOf.ErrorOf}
use Rattle.goblin_base.specs.{Bytes.bounded_text_at, Bytes.number, Answers.IsBoundedTextFault}
use Rattle.goblin_base.specs.{Record.FieldValue.octets, Record.FieldValue.uint, Tables.records_in}
use Rattle.goblin_base.specs.declared.endian.Endian.TheVariants.{Little}
use Rattle.goblin_base.specs.Record.{FieldValue, encoding, record_at}
use Rattle.goblin_pe_sect.specs.declared.options.View.{View}
use Rattle.goblin_pe_sect.specs.declared.address_map.records.MappedRecords.{MappedRecords}
use Rattle.goblin_pe_sect.specs.declared.section_table.records.SectionRecords.{SectionRecords}

-- Source: PE Format, "Section Table (Section Headers)" and "Section Data".

-- a section, with the bytes of its texts
pub record Section : Type 0 where
  pub name : List ℕ
  pub real_name : Option (List ℕ)
  pub virtual_size : ℕ
  pub virtual_address : ℕ
  pub size_of_raw_data : ℕ
  pub pointer_to_raw_data : ℕ
  pub pointer_to_relocations : ℕ
  pub pointer_to_linenumbers : ℕ
  pub number_of_relocations : ℕ
  pub number_of_linenumbers : ℕ
  pub characteristics : ℕ

-- the section in the 40 bytes of a section header
abbrev pub section_record : Endian → List ℕ → Section
section_record endian bytes = record {
  name = slice_range bytes 0 8;
  real_name = None;
  virtual_size = number endian 4 bytes 8;
  virtual_address = number endian 4 bytes 12;
  size_of_raw_data = number endian 4 bytes 16;
  pointer_to_raw_data = number endian 4 bytes 20;
  pointer_to_relocations = number endian 4 bytes 24;
  pointer_to_linenumbers = number endian 4 bytes 28;
  number_of_relocations = number endian 2 bytes 32;
  number_of_linenumbers = number endian 2 bytes 34;
  characteristics = number endian 4 bytes 36;
}

-- the fields of a section header, in order
abbrev pub section_fields : Section → List FieldValue
section_fields s =
    octets s.name ∷ uint 4 s.virtual_size ∷ uint 4 s.virtual_address ∷ uint 4 s.size_of_raw_data
    ∷ uint 4 s.pointer_to_raw_data
    ∷ uint 4 s.pointer_to_relocations ∷ uint 4 s.pointer_to_linenumbers
    ∷ uint 2 s.number_of_relocations ∷ uint 2 s.number_of_linenumbers
    ∷ uint 4 s.characteristics ∷ []

-- the section without its name from the string table
abbrev pub unnamed : Section → Section
unnamed s = record s { real_name = None }

-- A section that is written reads back from what was written, in the same byte order, whatever its
-- fields are. Its real name, which is not part of the section header, is then missing.
unfoldable pub SectionReadsBack : Section → Type 0
SectionReadsBack s =
    (endian : Endian)
    → record_at 40 (section_record endian) (encoding endian (section_fields s)) 0
    ≡ Some (unnamed s)

-- the sections whose headers are in these bytes, without their names from the string table
abbrev pub sections_in : List ℕ → List Section
sections_in bytes = records_in 40 (section_record Little) bytes

-- the sections of these section headers
abbrev pub recorded_sections : SectionRecords → List Section
recorded_sections r = sections_in r.records.now

-- The front of a file as a section at address 0, since the Windows loader maps the headers at the
-- image's base. `size` is the size of the headers. The window of the front has `size` rounded up to
-- the file alignment, but to no more than whole pages.
abbrev pub front_section : ℕ → Section
front_section size = record {
  name = replicate 8 0;
  real_name = None;
  virtual_size = size;
  virtual_address = 0;
  size_of_raw_data = size;
  pointer_to_raw_data = 0;
  pointer_to_relocations = 0;
  pointer_to_linenumbers = 0;
  number_of_relocations = 0;
  number_of_linenumbers = 0;
  characteristics = 0;
}

-- the sections by which addresses are mapped; if the file's front is mapped, it comes after them
abbrev pub with_front : Option ℕ → List Section → List Section
with_front None sections = sections
with_front (Some size) sections = sections ++ front_section size ∷ []

-- the same sections, of section headers
abbrev pub mapped_sections : MappedRecords → List Section
mapped_sections r = with_front r.front (recorded_sections r.records)

-- what maps the addresses in a file's tables: the sections, the view in which they are mapped and,
-- if the file's front is mapped, the size of the headers
pub record MappedSections : Type 0 where
  pub sections : List Section
  pub view : View
  pub front : Option ℕ

-- the same, of section headers
abbrev pub mapped_of : View → MappedRecords → MappedSections
mapped_of view r = record { sections = recorded_sections r.records; view = view; front = r.front }

-- section headers keep only their bytes
abbrev pub AreBytesAlone : Type 0
AreBytesAlone = (r s : SectionRecords) → r.records ≡ s.records → r ≡ s

-- the name of a section: the one from the string table or, if there is none, the text of the eight
-- bytes
abbrev pub name_of : Option (List ℕ) → List ℕ → Option (List ℕ)
name_of (Some real_name) name = Some real_name
name_of None name = bounded_text_at name 0 8

-- which cause is true if a section has no name
abbrev pub IsNoName : Option (List ℕ) → List ℕ → ErrorOf → Type 0
IsNoName (Some real_name) name e = ⊥
IsNoName None name e = IsBoundedTextFault name 0 8 e

-- the raw data of two sections overlaps: neither ends at or before the raw pointer of the other
abbrev pub OverlapRawData : Section → Section → Type 0
OverlapRawData a b =
    (a.pointer_to_raw_data < b.pointer_to_raw_data + b.size_of_raw_data)
    × (b.pointer_to_raw_data < a.pointer_to_raw_data + a.size_of_raw_data)

-- the numbers of a section
abbrev pub section_numbers : Section → List ℕ
section_numbers s =
    s.virtual_size ∷ s.virtual_address ∷ s.size_of_raw_data ∷ s.pointer_to_raw_data
    ∷ s.pointer_to_relocations ∷ s.pointer_to_linenumbers
    ∷ s.number_of_relocations ∷ s.number_of_linenumbers ∷ s.characteristics ∷ []

-- all fields are equal; texts are compared by their bytes
abbrev pub section_eq : Section → Section → Bool
section_eq =
    eq_of_both (on (λ (s : Section). s.name) (pointwise nat_eq))
    (eq_of_both (on (λ (s : Section). s.real_name) (option_eq (pointwise nat_eq)))
    (on section_numbers (pointwise nat_eq)))

-- equality of sections is symmetric and transitive
pub section_per : IsPartialEquivalence section_eq
section_per =
    let texts = partial_equiv_from_equiv nat_list_eq_equiv in
    and_per (on_per (λ (s : Section). s.name) texts)
    (and_per
    (on_per (λ (s : Section). s.real_name)
    (partial_equiv_from_equiv (options_equiv nat_list_eq_equiv)))
    (on_per section_numbers texts))
