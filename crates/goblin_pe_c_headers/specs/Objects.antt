-- What a call reports of an object.
use Rattle.std.specs.Prelude.{◌≡◌, ◌+◌, Bool, List, None, Some}
use Rattle.goblin_base.specs.{declared.endian.Endian.TheVariants.Little, Reading.Reading}
use Rattle.readings.specs.Reads.{◌>>=◌, mapped, record_at}
use Rattle.goblin_pe_sect.specs.{Options.is_strict, SectionTable.Section}
use Rattle.goblin_pe_head.specs.{declared.header.coff.CoffHeader.CoffHeader, CoffHeader.coff_header}
use Rattle.goblin_pe_head.specs.{CoffHeader.symbols_end, CoffReadings.sections_at}
use Rattle.goblin_pe_c_headers.specs.{Images.PeImage, ImageRecords.zero_image, Sections.RowsHold}
use Rattle.goblin_pe_c_headers.specs.Options.{PeOptions, header_options, longest_of}

pub record ObjectFile : Type 0 where
  pub header : CoffHeader
  pub sections : List Section

-- an object: its header is at the front of the file, and the sections follow the header and what it
-- says of an optional header
unfoldable pub object_file : Bool → Reading ObjectFile
object_file strict =
    record_at 20 (coff_header Little) 0 >>= λ h.
    mapped (λ sections. record { header = h; sections = sections })
    (sections_at strict (symbols_end h) h.number_of_sections (20 + h.size_of_optional_header))

abbrev pub object_image : PeOptions → CoffHeader → PeImage → PeImage
object_image o h image = record (zero_image o 2 image) {
  section_table = 20 + h.size_of_optional_header;
  section_count = h.number_of_sections;
  coff_header = h;
}

-- The rows of an object's sections hold the sections that are read, with their whole names.
unfoldable pub ObjectRowsAreRead : Type 0
ObjectRowsAreRead =
    (image : PeImage) (x : ObjectFile) → longest_of image.options ≡ None
    → (object_file (is_strict (header_options image.options).parse_mode)).value image.bytes.now
    ≡ Some x
    → image ≡ object_image image.options x.header image
    → RowsHold image x.sections
