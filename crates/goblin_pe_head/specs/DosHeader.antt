-- The DOS header: its record.
use Rattle.std.specs.Prelude.{ℕ, List, [], ◌∷◌, ◌++◌, map, slice_index}
use Rattle.std.specs.List.{range_with_len}
use Rattle.goblin_base.specs.{declared.endian.Endian.Endian, Bytes.number}
use Rattle.goblin_base.specs.Record.{FieldValue, uint, numbers}
pub use Rattle.goblin_pe_head.specs.declared.header.dos.DosHeader.{DosHeader}

-- Source: PE Format, "MS-DOS Stub (Image Only)" and "Signature (Image Only)"; the fields are those
-- of a DOS executable.

-- the DOS header in a record's 64 bytes
abbrev pub dos_record : Endian → List ℕ → DosHeader
dos_record endian bytes = record {
  signature = number endian 2 bytes 0;
  bytes_on_last_page = number endian 2 bytes 2;
  pages_in_file = number endian 2 bytes 4;
  relocations = number endian 2 bytes 6;
  size_of_header_in_paragraphs = number endian 2 bytes 8;
  minimum_extra_paragraphs_needed = number endian 2 bytes 10;
  maximum_extra_paragraphs_needed = number endian 2 bytes 12;
  initial_relative_ss = number endian 2 bytes 14;
  initial_sp = number endian 2 bytes 16;
  checksum = number endian 2 bytes 18;
  initial_ip = number endian 2 bytes 20;
  initial_relative_cs = number endian 2 bytes 22;
  file_address_of_relocation_table = number endian 2 bytes 24;
  overlay_number = number endian 2 bytes 26;
  reserved = numbers endian 2 4 bytes 28;
  oem_id = number endian 2 bytes 36;
  oem_info = number endian 2 bytes 38;
  reserved2 = numbers endian 2 10 bytes 40;
  pe_pointer = number endian 4 bytes 60;
}

-- the first n numbers of an array, as fields of two bytes
abbrev pub array_fields : ℕ → List ℕ → List FieldValue
array_fields n numbers = map (λ i. uint 2 (slice_index numbers i)) (range_with_len 0 n)

-- the fields of a DOS header, in order
abbrev pub dos_fields : DosHeader → List FieldValue
dos_fields h =
    uint 2 h.signature ∷ uint 2 h.bytes_on_last_page ∷ uint 2 h.pages_in_file ∷ uint 2 h.relocations
    ∷ uint 2 h.size_of_header_in_paragraphs ∷ uint 2 h.minimum_extra_paragraphs_needed
    ∷ uint 2 h.maximum_extra_paragraphs_needed ∷ uint 2 h.initial_relative_ss ∷ uint 2 h.initial_sp
    ∷ uint 2 h.checksum
    ∷ uint 2 h.initial_ip ∷ uint 2 h.initial_relative_cs ∷ uint 2 h.file_address_of_relocation_table
    ∷ uint 2 h.overlay_number
    ∷ array_fields 4 h.reserved ++ uint 2 h.oem_id ∷ uint 2 h.oem_info ∷ array_fields 10 h.reserved2
    ++ uint 4 h.pe_pointer ∷ []
