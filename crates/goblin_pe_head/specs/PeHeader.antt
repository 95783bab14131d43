-- The header of a PE file: its parts and its written form.
use Rattle.std.specs.List.{concat}
use Rattle.std.specs.Prelude.{ℕ, List, [], ◌∷◌, replicate, Option, Some, None, option_map}
use Rattle.goblin_base.specs.declared.endian.Endian.{Endian}
use Rattle.goblin_base.specs.declared.endian.Endian.TheVariants.{Little}
use Rattle.goblin_base.specs.{declared.error.ErrorOf.ErrorOf, Record.encoding, Record.uint}
use Rattle.goblin_pe_head.specs.{CoffHeader.CoffHeader, CoffHeader.coff_fields, DosHeader.DosHeader}
use Rattle.goblin_pe_head.specs.{DosHeader.dos_fields, declared.header.pe_header.Header.Header}
use Rattle.goblin_pe_head.specs.{DosStub.default_stub, DosStub.stub_bytes, RichHeader.Rich}
use Rattle.goblin_pe_head.specs.RichHeader.{rich_value}
use Rattle.goblin_pe_head.specs.OptionalHeader.{OptionalHeader, IsUnwritten, optional_bytes}

-- Source: PE Format, "File Headers".

-- a header, with its slices as lists
pub record PeHeader : Type 0 where
  pub dos_header : DosHeader
  pub dos_stub : List ℕ
  pub rich_header : Option Rich
  pub signature : ℕ
  pub coff_header : CoffHeader
  pub optional_header : Option OptionalHeader

-- the value of a header that borrows its slices
abbrev pub header_value : Header → PeHeader
header_value h = record {
  dos_header = h.dos_header;
  dos_stub = stub_bytes h.dos_stub;
  rich_header = option_map rich_value h.rich_header;
  signature = h.signature;
  coff_header = h.coff_header;
  optional_header = h.optional_header;
}

-- a DOS header of zeros
abbrev pub zero_dos_header : DosHeader
zero_dos_header = record {
  signature = 0;
  bytes_on_last_page = 0;
  pages_in_file = 0;
  relocations = 0;
  size_of_header_in_paragraphs = 0;
  minimum_extra_paragraphs_needed = 0;
  maximum_extra_paragraphs_needed = 0;
  initial_relative_ss = 0;
  initial_sp = 0;
  checksum = 0;
  initial_ip = 0;
  initial_relative_cs = 0;
  file_address_of_relocation_table = 0;
  overlay_number = 0;
  reserved = replicate 4 0;
  oem_id = 0;
  oem_info = 0;
  reserved2 = replicate 10 0;
  pe_pointer = 0;
}

-- a COFF header of zeros
abbrev pub zero_coff_header : CoffHeader
zero_coff_header = record {
  machine = 0;
  number_of_sections = 0;
  time_date_stamp = 0;
  pointer_to_symbol_table = 0;
  number_of_symbol_table = 0;
  size_of_optional_header = 0;
  characteristics = 0;
}

-- the default header: zeros, the default stub, and neither a Rich header nor an optional header
unfoldable pub default_header : PeHeader
default_header = record {
  dos_header = zero_dos_header;
  dos_stub = default_stub;
  rich_header = None;
  signature = 0;
  coff_header = zero_coff_header;
  optional_header = None;
}

-- the written form of the optional header: no bytes if there is none
abbrev pub written_part : Endian → Option OptionalHeader → Option (List ℕ)
written_part endian None = Some []
written_part endian (Some h) = optional_bytes endian h

-- the parts of a header one after the other, with the signature always little-endian, and with
-- these bytes as the written optional header
unfoldable pub header_parts : Endian → PeHeader → List ℕ → List ℕ
header_parts endian h optional = concat (
    encoding endian (dos_fields h.dos_header)
    ∷ h.dos_stub
    ∷ encoding Little (uint 4 h.signature ∷ [])
    ∷ encoding endian (coff_fields h.coff_header)
    ∷ optional
    ∷ []
    )

-- the written form of a header
unfoldable pub header_bytes : Endian → PeHeader → Option (List ℕ)
header_bytes endian h = option_map (header_parts endian h) (written_part endian h.optional_header)

-- which cause is true of a header that has no written form: that of its optional header
abbrev pub IsUnwrittenPart : Option OptionalHeader → ErrorOf → Type 0
IsUnwrittenPart None e = ⊥
IsUnwrittenPart (Some h) e = IsUnwritten h e
