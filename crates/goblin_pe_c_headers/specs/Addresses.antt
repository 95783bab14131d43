-- The file offsets of the addresses of an image, and the addresses of offsets.
use Rattle.std.specs.Prelude.{ℕ, ◌^◌, ◌==◌, ◌&&◌, nat_lt, if◌then◌else◌, List, [], Option, Some}
use Rattle.std.specs.Prelude.{None, find, option_and_then, option_map}
use Rattle.std.specs.{Int.is_power_of_two, Option.is_some}
use Rattle.goblin_base.specs.Answers.{◌>>=◌}
use Rattle.goblin_pe_sect.specs.Addresses.{Addressing}
use Rattle.goblin_pe_sect.specs.{declared.options.Mapping.Mapping, Mapping.file_end}
use Rattle.goblin_pe_sect.specs.{Mapping.file_offset, added.Backward.is_at, added.Backward.rva_in}
use Rattle.goblin_pe_sect.specs.Options.{front_of, mapping_in}
use Rattle.goblin_pe_sect.specs.SectionTable.{Section, mapped_sections, with_front}
use Rattle.goblin_pe_c_headers.specs.declared.address.Mapped.{Mapped}
use Rattle.goblin_pe_c_headers.specs.Options.{PeOptions, are_known, longest_of, maps_addresses}
use Rattle.goblin_pe_c_headers.specs.Options.{options_at, view_of}
use Rattle.goblin_pe_c_headers.specs.{Images.PeImage, Places.PePlaces, Places.image_places}
use Rattle.goblin_pe_c_headers.specs.Places.{placed_sections}

-- What maps the addresses of an image: its sections and, if it is mapped, the file's front after
-- them, the alignments in the file and in memory, and how they are mapped.
pub record MappedImage : Type 0 where
  pub sections : List Section
  pub alignment : ℕ
  pub section_alignment : ℕ
  pub mapping : Mapping

abbrev pub mapped_model : Mapped → MappedImage
mapped_model m = record {
  sections = mapped_sections m.records;
  alignment = m.file_alignment;
  section_alignment = m.section_alignment;
  mapping = m.mapping;
}

-- The sections that map addresses: those of the file, if it has room for their headers and the
-- file alignment is a power of two. None are needed if addresses are offsets.
abbrev pub mapping_sections : PeOptions → PePlaces → List ℕ → Option (List Section)
mapping_sections o p bytes =
    if maps_addresses o
    then (if is_power_of_two p.file_alignment then (placed_sections p).value bytes else None)
    else Some []

-- What maps the addresses of an image. Nothing does in an object or a Terse Executable, or if the
-- options are not known.
unfoldable pub mapped_image : PeImage → Option MappedImage
mapped_image i =
    let o = i.options in
    let p = image_places i in
    if i.kind == 1 && are_known o
    then option_map (λ sections. record {
      sections = with_front (front_of (view_of o) p.size_of_headers) sections;
      alignment = p.file_alignment;
      section_alignment = i.optional_header.windows_fields.section_alignment;
      mapping = mapping_in (view_of o) (options_at o p.file_alignment);
    }) (mapping_sections o p i.bytes.now)
    else None

-- the file offset of an address, if it has one; an address has 32 bits
abbrev pub mapped_offset : MappedImage → ℕ → Option ℕ
mapped_offset m rva =
    if nat_lt rva (2 ^ 32) then file_offset m.mapping m.sections m.alignment rva else None

abbrev pub image_map : PeImage → ℕ → Option ℕ
image_map i rva = option_and_then (λ m. mapped_offset m rva) (mapped_image i)

-- How the addresses of an image are used: its file offsets, where a read at an address ends, and
-- the limit for texts that its options say.
abbrev pub image_addressing : PeImage → Addressing
image_addressing i = record {
  offset = image_map i;
  end = λ rva.
      option_and_then (λ m. file_end m.mapping m.sections m.alignment rva) (mapped_image i);
  longest = longest_of i.options;
}

-- the address that the first section whose raw data holds the offset has there
abbrev pub first_address : MappedImage → ℕ → Option ℕ
first_address m offset =
    if m.mapping.resolve_rva
    then option_and_then (rva_in m.mapping m.alignment offset)
    (find (λ s. is_some (rva_in m.mapping m.alignment offset s)) m.sections)
    else Some offset

-- the address of an offset: that in the first section, if it is mapped back to the offset
abbrev pub image_address : PeImage → ℕ → Option ℕ
image_address i offset =
    mapped_image i >>= λ m. first_address m offset
    >>= λ rva. if is_at offset (mapped_offset m rva) then Some rva else None
