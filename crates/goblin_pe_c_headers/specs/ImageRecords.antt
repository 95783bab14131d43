-- The record of an image, as definitions.
use Rattle.std.specs.Prelude.{◌≡◌, ℕ, List, [], ◌∷◌, false, replicate}
use Rattle.goblin_pe_head.specs.added.HeaderParts.{zero_windows_fields}
use Rattle.goblin_pe_head.specs.PeHeader.{zero_coff_header, zero_dos_header}
use Rattle.goblin_pe_c_headers.specs.{Images.PeImage, declared.image.PeRichHeader.PeRichHeader}
use Rattle.goblin_pe_c_headers.specs.{Options.PeOptions, Headers.zero_standard_fields}
use Rattle.goblin_pe_sect.specs.DataDirectories.{zero_directory}

abbrev pub no_rich_header : PeRichHeader
no_rich_header = record {
  key = 0;
  start_offset = 0;
  end_offset = 0;
  padding_size = 0;
  is_present = false;
  reserved = 0 ∷ 0 ∷ 0 ∷ [];
}

-- An image of zeros, except its bytes, its options and its kind. (Its bytes are those of the given
-- record.)
abbrev pub zero_image : PeOptions → ℕ → PeImage → PeImage
zero_image options kind image = record image {
  options = options;
  kind = kind;
  section_table = 0;
  section_count = 0;
  dos_header = zero_dos_header;
  coff_header = zero_coff_header;
  has_optional_header = false;
  is_dos_stub_replaced = false;
  moved_by = 0;
  optional_header = record {
    standard_fields = zero_standard_fields;
    windows_fields = zero_windows_fields;
  };
  directories = replicate 16 zero_directory;
  dos_stub_size = 0;
  rich_header = no_rich_header;
}

-- the record of the file with these bytes
abbrev pub IsImage : List ℕ → PeImage → (PeImage → PeImage) → Type 0
IsImage bytes image made = (image.bytes.now ≡ bytes) × (image ≡ made image)
