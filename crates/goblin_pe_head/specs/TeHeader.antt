-- The header of a Terse Executable: its record, and the adjustment of addresses and pointers. As
-- stored, these still say where things were before the headers of the PE file were stripped.
use Rattle.std.specs.Prelude.{◌≡◌, ℕ, ◌+◌, ◌-◌, ◌%◌, ◌^◌, ◌==◌, if◌then◌else◌, nat_le, List, []}
use Rattle.std.specs.Prelude.{◌∷◌, Option, Some, None, ◌*◌, true, Bool, option_map}
use Rattle.goblin_base.specs.{declared.endian.Endian.Endian, declared.error.ErrorOf.ErrorOf}
use Rattle.goblin_base.specs.declared.error.ErrorOf.TheVariants.{Malformed}
use Rattle.goblin_base.specs.{declared.error.CauseOf.TheVariants.StrippedSize, Bytes.number}
use Rattle.goblin_base.specs.{declared.endian.Endian.TheVariants.Little, Reading.Reading}
use Rattle.goblin_base.specs.Record.{FieldValue, uint}
use Rattle.goblin_base.proofs.Readings.{malformed-not_memory}
use Rattle.readings.specs.Reads.{◌>>=◌, checked, each, mapped, needs, record_at}
use Rattle.goblin_pe_sect.specs.{SectionTable.Section, SectionReadings.named_section_at}
pub use Rattle.goblin_pe_head.specs.declared.header.te.TeHeader.{TeHeader}
use Rattle.goblin_pe_head.specs.CoffReadings.{with_room}

-- Source: UEFI Platform Initialization Specification, volume 1, "TE Image".

-- the header in a record's 40 bytes, as stored
abbrev pub te_record : Endian → List ℕ → TeHeader
te_record endian bytes = record {
  signature = number endian 2 bytes 0;
  machine = number endian 2 bytes 2;
  number_of_sections = number endian 1 bytes 4;
  subsystem = number endian 1 bytes 5;
  stripped_size = number endian 2 bytes 6;
  entry_point = number endian 4 bytes 8;
  base_of_code = number endian 4 bytes 12;
  image_base = number endian 8 bytes 16;
  reloc_dir =
      record { virtual_address = number endian 4 bytes 24; size = number endian 4 bytes 28 };
  debug_dir =
      record { virtual_address = number endian 4 bytes 32; size = number endian 4 bytes 36 };
}

-- its fields, in order
abbrev pub te_fields : TeHeader → List FieldValue
te_fields h =
    uint 2 h.signature ∷ uint 2 h.machine ∷ uint 1 h.number_of_sections ∷ uint 1 h.subsystem
    ∷ uint 2 h.stripped_size
    ∷ uint 4 h.entry_point ∷ uint 4 h.base_of_code ∷ uint 8 h.image_base
    ∷ uint 4 h.reloc_dir.virtual_address
    ∷ uint 4 h.reloc_dir.size ∷ uint 4 h.debug_dir.virtual_address ∷ uint 4 h.debug_dir.size ∷ []

-- How many bytes everything moved towards the front: the number of stripped bytes minus the 40
-- bytes of the header. There is no such number if fewer than 40 were stripped.
abbrev pub displacement : TeHeader → Option ℕ
displacement h = if nat_le 40 h.stripped_size then Some (h.stripped_size - 40) else None

-- a number minus d, modulo 2 ^ 32
abbrev pub moved_address : ℕ → ℕ → ℕ
moved_address d x = (x + (2 ^ 32 - d)) % 2 ^ 32

-- a header whose entry point, base of code and directories are adjusted to the stripped file
abbrev pub te_adjusted : ℕ → TeHeader → TeHeader
te_adjusted d h = record h {
  entry_point = moved_address d h.entry_point;
  base_of_code = moved_address d h.base_of_code;
  reloc_dir = record h.reloc_dir { virtual_address = moved_address d h.reloc_dir.virtual_address };
  debug_dir = record h.debug_dir { virtual_address = moved_address d h.debug_dir.virtual_address };
}

-- the refusal says how many bytes were stripped
abbrev pub IsStrippedFault : TeHeader → ErrorOf → Type 0
IsStrippedFault h e = e ≡ Malformed (StrippedSize h.stripped_size)

-- a pointer minus d, modulo 2 ^ 32; 0 points to nothing and stays 0
abbrev pub pointer_moved : ℕ → ℕ → ℕ
pointer_moved d x = if x == 0 then 0 else moved_address d x

-- a section whose address and pointers are adjusted to the stripped file
unfoldable pub section_adjusted : ℕ → Section → Section
section_adjusted d s = record s {
  virtual_address = moved_address d s.virtual_address;
  pointer_to_raw_data = pointer_moved d s.pointer_to_raw_data;
  pointer_to_relocations = pointer_moved d s.pointer_to_relocations;
  pointer_to_linenumbers = pointer_moved d s.pointer_to_linenumbers;
}

-- a section as stored, or adjusted to a file whose front was stripped
abbrev pub section_moved : Option ℕ → Section → Section
section_moved None = λ s. s
section_moved (Some d) = section_adjusted d

-- ---- the header, the sections, and both as an image

-- the header at p, with its addresses adjusted to the stripped file; it is refused if fewer bytes
-- were stripped than the header has
unfoldable pub te_header : ℕ → Reading TeHeader
te_header p =
    checked (λ (header : TeHeader). option_map (λ d. te_adjusted d header) (displacement header))
    IsStrippedFault
    (λ header. malformed-not_memory (StrippedSize header.stripped_size))
    (record_at 40 (te_record Little) p)

-- the section at p: as stored, or adjusted to a file whose front was stripped
abbrev pub moved_section : Option ℕ → Bool → ℕ → ℕ → Reading Section
moved_section None strict table p = named_section_at strict table p
moved_section (Some d) strict table p =
    mapped (section_adjusted d) (named_section_at strict table p)

-- n sections, each as `moved_section` gives it, whose section headers follow one another from p on,
-- with their names from the string table at `table`
abbrev pub moved_sections : Option ℕ → Bool → ℕ → ℕ → ℕ → Reading (List Section)
moved_sections move strict table n p =
    each (λ i. moved_section move strict table (p + 40 * i)) n

-- as many sections as the header says, adjusted; the string table for their names is at the front
-- of the file
unfoldable pub te_sections_at : TeHeader → ℕ → Reading (List Section)
te_sections_at h p =
    with_room h.number_of_sections
    (needs (displacement h) (StrippedSize h.stripped_size)
    >>= λ d. moved_sections (Some d) true 0 h.number_of_sections p)

-- the header at p, and the sections after it
unfoldable pub te_image : ℕ → Reading (TeHeader × List Section)
te_image p =
    te_header p >>= λ header.
    mapped (λ sections. (header, sections)) (te_sections_at header (p + 40))
