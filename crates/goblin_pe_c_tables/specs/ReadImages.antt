-- The record of an image that is read, and what is written of it.
use Rattle.std.specs.Prelude.{◌≡◌, ◌++◌, nat_lt, IsSomeAnd, List, length, Some, None, take, true}
use Rattle.std.specs.Option.{is_some}
use Rattle.goblin_pe_sect.specs.SectionTable.{Section}
use Rattle.goblin_base.specs.{declared.endian.Endian.TheVariants.Little, Bytes.IsBytes}
use Rattle.goblin_pe_head.specs.HeaderLaws.{filling_after, header_end}
use Rattle.goblin_pe_head.specs.{HeaderReadings.pe_header, PeHeader.PeHeader, PeHeader.header_bytes}
use Rattle.goblin_pe_c_headers.specs.Written.{header_from_c, image_stub}
use Rattle.goblin_pe.specs.Whole.{layout, places_in, section_table_offset}
use Rattle.goblin_pe_c_headers.specs.declared.image.PeImage.{PeImage}
use Rattle.goblin_pe_c_headers.specs.{declared.options.PeOptions.PeOptions, Headers.optional_record}
use Rattle.goblin_pe_c_headers.specs.{ImageRecords.zero_image, Places.image_places}
use Rattle.goblin_pe_c_headers.specs.{RichHeaders.rich_of, Sections.RowsHold}
use Rattle.goblin_pe_c_headers.specs.Options.{header_options, longest_of}
use Rattle.goblin_pe_c_tables.specs.Places.{LeadsBack, places_record}

-- the record of a file with this header
abbrev pub image_of : PeOptions → PeHeader → PeImage → PeImage
image_of o h image = record (zero_image o 1 image) {
  section_table = section_table_offset h;
  section_count = h.coff_header.number_of_sections;
  dos_header = h.dos_header;
  coff_header = h.coff_header;
  has_optional_header = is_some h.optional_header;
  is_dos_stub_replaced = nat_lt h.dos_header.pe_pointer 64;
  optional_header = optional_record h.optional_header;
  directories = (places_in h.optional_header).directories;
  dos_stub_size = length h.dos_stub;
  rich_header = rich_of h.rich_header;
}

-- The rows of an image's sections hold the sections that are read, with their whole names.
unfoldable pub ImageRowsAreRead : Type 0
ImageRowsAreRead =
    (image : PeImage) (l : PeHeader × List Section) → longest_of image.options ≡ None
    → (layout (header_options image.options)).value image.bytes.now ≡ Some l
    → image ≡ image_of image.options l.0 image
    → RowsHold image l.1

-- The places of an image are those of its header, and these lead back to its file.
unfoldable pub ImageLeadsBack : Type 0
ImageLeadsBack =
    (image : PeImage) (h : PeHeader) → image ≡ image_of image.options h image
    → (image_places image ≡ places_record h) × LeadsBack h

-- A header that strict mode read is written from its record as the file's bytes up to its end, with
-- zeros for the missing directories after them.
unfoldable pub ImageWritesBack : Type 0
ImageWritesBack =
    (image : PeImage) (h : PeHeader) → IsBytes image.bytes.now
    → (pe_header true).value image.bytes.now ≡ Some h → image ≡ image_of image.options h image
    → IsSomeAnd ((image_stub image).value image.bytes.now) (λ stub.
    header_bytes Little (header_from_c image stub)
    ≡ Some (take (header_end h) image.bytes.now ++ filling_after h.optional_header))
