-- Where the sections and the tables of an image lie.
use Rattle.std.specs.Prelude.{ℕ, ◌*◌, ◌==◌, Bool, if◌then◌else◌, List, []}
use Rattle.goblin_base.specs.Reading.{Reading}
use Rattle.readings.specs.Reads.{given, pick, slice_at}
use Rattle.goblin_pe_head.specs.added.HeaderParts.{sections_there}
use Rattle.goblin_pe_sect.specs.SectionTable.{Section}
use Rattle.goblin_pe_c_headers.specs.Images.{PeImage}
pub use Rattle.goblin_pe_c_headers.specs.declared.places.PePlaces.{PePlaces}

-- a number of the optional header; 0 without one
abbrev pub number_if : Bool → ℕ → ℕ
number_if is_there number = if is_there then number else 0

abbrev pub image_places : PeImage → PePlaces
image_places i = record {
  section_table = i.section_table;
  directories = i.directories;
  file_alignment =
      number_if i.has_optional_header i.optional_header.windows_fields.file_alignment;
  size_of_headers =
      number_if i.has_optional_header i.optional_header.windows_fields.size_of_headers;
  number_of_sections = i.section_count;
  magic = number_if i.has_optional_header i.optional_header.standard_fields.magic;
}

-- the bytes of `count` section headers at p; if there are none, p does not matter
abbrev pub headers_there : ℕ → ℕ → Reading (List ℕ)
headers_there count p = pick (count == 0) (given []) (slice_at p (40 * count))

abbrev pub placed_sections : PePlaces → Reading (List Section)
placed_sections p = sections_there p.number_of_sections p.section_table
