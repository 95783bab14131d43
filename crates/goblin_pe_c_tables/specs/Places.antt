-- Where the sections and the tables of a file lie, as the record that a caller keeps.
use Rattle.std.specs.Prelude.{◌≡◌, ℕ, Bool, List, Some, IsSomeAnd}
use Rattle.goblin_pe_sect.specs.Addresses.{MapOfAddresses, map_in, with_longest}
use Rattle.goblin_pe_sect.specs.{Options.front_of, SectionTable.Section}
use Rattle.goblin_pe_head.specs.PeHeader.{PeHeader}
use Rattle.goblin_pe.specs.Whole.{TablePlaces, mapped_in, places_in}
use Rattle.goblin_pe.specs.Whole.{section_table_offset, sections_after, size_of_headers}
use Rattle.goblin_pe_c_headers.specs.declared.options.PeOptions.{PeOptions}
use Rattle.goblin_pe_c_headers.specs.{declared.places.PePlaces.PePlaces, Places.placed_sections}
use Rattle.goblin_pe_c_headers.specs.Options.{longest_of, options_at, view_of}

-- ---- the record of a header

abbrev pub places_record : PeHeader → PePlaces
places_record h =
    let tables = places_in h.optional_header in
    record {
      section_table = section_table_offset h;
      directories = tables.directories;
      file_alignment = tables.file_alignment;
      size_of_headers = size_of_headers h.optional_header;
      number_of_sections = h.coff_header.number_of_sections;
      magic = tables.magic;
    }

-- ---- what a record says

-- where the tables lie
abbrev pub places_from_c : PePlaces → TablePlaces
places_from_c p = record {
  magic = p.magic;
  file_alignment = p.file_alignment;
  directories = p.directories;
}

-- how addresses are mapped by these sections, and in the loader's view by the file's front; names
-- are read up to the limit that the options say
abbrev pub map_at : PeOptions → PePlaces → List Section → MapOfAddresses
map_at o p sections =
    let view = view_of o in
    with_longest (longest_of o)
    (map_in (options_at o p.file_alignment)
    (record { sections = sections; view = view; front = front_of view p.size_of_headers })
    p.file_alignment)

-- how addresses of a file with this header and these sections are mapped, in the view of the
-- options, by its own file alignment
abbrev pub file_map_of : PeOptions → PeHeader → List Section → MapOfAddresses
file_map_of o h sections =
    let alignment = (places_in h.optional_header).file_alignment in
    map_in (options_at o alignment) (mapped_in (view_of o) h sections) alignment

-- The places of a header lead back to its file: its tables lie there, and addresses are mapped by
-- the sections after it, and in the loader's view by its front. Names are read up to the limit.
pub record LeadsBack (h : PeHeader) : Type 0 where
  pub tables : places_from_c (places_record h) ≡ places_in h.optional_header
  pub sections : (strict : Bool) (bytes : List ℕ) (sections : List Section)
      → (sections_after strict h).value bytes ≡ Some sections → (o : PeOptions)
      → IsSomeAnd ((placed_sections (places_record h)).value bytes) (λ found.
      map_at o (places_record h) found ≡ with_longest (longest_of o) (file_map_of o h sections))
