-- What a call reports of a Terse Executable.
use Rattle.std.specs.Prelude.{◌≡◌, ℕ, ◌-◌, List, None, Some, true}
use Rattle.goblin_base.specs.Reading.{Reading}
use Rattle.goblin_pe_sect.specs.{Options.is_strict, SectionTable.Section}
use Rattle.goblin_pe_head.specs.{declared.header.te.TeHeader.TeHeader, TeHeader.te_image}
use Rattle.goblin_pe_head.specs.PeHeader.{zero_coff_header}
use Rattle.goblin_pe_c_headers.specs.{Images.PeImage, Sections.RowsHold}
use Rattle.goblin_pe_c_headers.specs.Options.{PeOptions, header_options, longest_of}
use Rattle.goblin_pe_c_headers.specs.ImageRecords.{IsImage, zero_image}

-- the header and the sections of a Terse Executable: the header is at the front of the file, and
-- the section table follows it
unfoldable pub te_file : Reading (TeHeader × List Section)
te_file = te_image 0

-- the record of an image with this header; it moved by the bytes that the file lost at its front,
-- beyond the 40 of the header
abbrev pub te_record_of : PeOptions → TeHeader → PeImage → PeImage
te_record_of o h image = record (zero_image o 3 image) {
  section_table = 40;
  section_count = h.number_of_sections;
  coff_header = record zero_coff_header {
    machine = h.machine;
    number_of_sections = h.number_of_sections;
  };
  moved_by = h.stripped_size - 40;
}

-- what a caller passes in to be filled
pub record TeRecords : Type 0 where
  pub image : PeImage
  pub header : TeHeader

-- the records hold what a file has
abbrev pub SaysTe : PeOptions → List ℕ → TeHeader × List Section → TeRecords → Type 0
SaysTe o bytes x new = IsImage bytes new.image (te_record_of o x.0) × (new.header ≡ x.0)

-- The rows of its sections hold the sections that are read, with their whole names.
unfoldable pub TeRowsAreRead : Type 0
TeRowsAreRead =
    (image : PeImage) (x : TeHeader × List Section) → longest_of image.options ≡ None
    → is_strict (header_options image.options).parse_mode ≡ true
    → te_file.value image.bytes.now ≡ Some x
    → image ≡ te_record_of image.options x.0 image
    → RowsHold image x.1
