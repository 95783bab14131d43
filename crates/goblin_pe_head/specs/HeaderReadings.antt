-- The header of a PE file: its parts, each at its offset.
use Rattle.std.specs.Prelude.{◌≡◌, ℕ, ◌+◌, ◌*◌, ◌<◌, ◌≤◌, ◌==◌, if◌then◌else◌, Bool, List}
use Rattle.std.specs.Prelude.{Option, None, Some, length}
use Rattle.goblin_base.specs.declared.endian.Endian.TheVariants.{Little}
use Rattle.goblin_base.specs.declared.error.CauseOf.{CauseOf}
use Rattle.goblin_base.specs.{declared.error.ErrorOf.TheVariants.Malformed, Reading.Reading}
use Rattle.goblin_base.specs.declared.error.CauseOf.TheVariants.{DosMagic, NoDosSignature, PeMagic}
use Rattle.goblin_base.specs.declared.error.CauseOf.TheVariants.{NoPePointer, NoPeSignature}
use Rattle.goblin_base.proofs.{Picks.by_cases-not_memory, Readings.malformed-not_memory}
use Rattle.readings.specs.Reads.{◌>>=◌, ◌beside◌, because, because_by, bytes_between, checked, pick}
use Rattle.readings.specs.Reads.{given, in_rest, mapped, needs_by, number_at, or_else, record_at}
use Rattle.goblin_pe_sect.specs.declared.data_directories.DataDirectory.{DataDirectory}
use Rattle.goblin_pe_sect.specs.DirectoryReadings.{directories_at}
use Rattle.goblin_pe_head.specs.{CoffHeader.CoffHeader, CoffHeader.coff_header, DosHeader.DosHeader}
use Rattle.goblin_pe_head.specs.{DosHeader.dos_record, DosStub.IsStubFault, DosStub.default_stub}
use Rattle.goblin_pe_head.specs.{PeHeader.PeHeader, PeHeader.zero_dos_header, RichHeader.Rich}
use Rattle.goblin_pe_head.specs.RichHeader.{rich_at}
pub use Rattle.goblin_pe_head.specs.declared.optional_header.FixedFields.{FixedFields}
use Rattle.goblin_pe_head.specs.OptionalHeader.{OptionalHeader, StandardFields, WindowsFields64}
use Rattle.goblin_pe_head.specs.OptionalHeader.{IsBadMagic, windows_record, fields_size}
use Rattle.goblin_pe_head.specs.OptionalHeader.{standard_32_record, standard_64_record}
use Rattle.goblin_pe_head.specs.OptionalHeader.{standard_from_32, standard_from_64}

-- Source: PE Format, "File Headers".

-- ---- the DOS header

-- the number, if it is the one that is wanted
abbrev pub that_is : ℕ → ℕ → Option ℕ
that_is wanted n = if n == wanted then Some n else None

-- a number that must be `wanted`; another is refused with the cause that `cause` makes of it
abbrev pub only : ℕ → (ℕ → CauseOf) → Reading ℕ → Reading ℕ
only wanted cause r =
    checked (that_is wanted) (λ n e. e ≡ Malformed (cause n))
    (λ n. malformed-not_memory (cause n)) r

-- the two bytes at the front, which must be the DOS signature
abbrev pub dos_signature : Reading ℕ
dos_signature = only 0x5A4D (λ n. DosMagic n) (because NoDosSignature (number_at Little 2 0))

-- the four bytes at p, whatever they are
abbrev pub signature_at : ℕ → Reading ℕ
signature_at p = because (NoPeSignature p) (number_at Little 4 p)

-- the four bytes at p, which must be the PE signature
abbrev pub pe_signature : ℕ → Reading ℕ
pe_signature p = only 0x4550 (λ n. PeMagic n) (signature_at p)

-- the record at the front, if the PE signature is where it points
abbrev pub signed_record : Reading DosHeader
signed_record =
    because NoPePointer (record_at 64 (dos_record Little) 0)
    >>= λ header. mapped (λ signature. header) (pe_signature header.pe_pointer)

-- the DOS header of a file: its record at 0, with the DOS signature there and the PE signature
-- where the record points
unfoldable pub dos_header : Reading DosHeader
dos_header = mapped (λ both. both.1) (dos_signature beside signed_record)

-- the Rich header of a file, if there is one
unfoldable pub rich_header : Reading (Option Rich)
rich_header = dos_header >>= λ dos. rich_at dos.pe_pointer

-- ---- the stub

-- the bytes from the end of the DOS header, at 64, up to a PE signature at p
abbrev pub stub_at : ℕ → Reading (List ℕ)
stub_at p =
    because_by (λ bytes. IsStubFault bytes p)
    (λ bytes. by_cases-not_memory (IsStubFault bytes p) (λ m h. h)) (bytes_between 64 p)

-- the stub before a PE signature at p; if it is refused, permissive mode gives the default stub
unfoldable pub stub_in : Bool → ℕ → Reading (List ℕ)
stub_in strict p = or_else strict default_stub (stub_at p)

-- ---- the optional header

-- the read that the magic selects: 0x10B for 32 bits (PE32), 0x20B for 64 bits (PE32+); another
-- magic is refused
abbrev pub by_magic : {A : Type 0} → Reading A → Reading A → ℕ → Reading A
by_magic narrow wide magic =
    pick (magic == 0x10B) narrow
    (pick (magic == 0x20B) wide
    (needs_by None (IsBadMagic magic) (by_cases-not_memory (IsBadMagic magic) (λ m h. h))))

-- the standard fields in the width that the magic gives
unfoldable pub standard_by : ℕ → Reading StandardFields
standard_by magic =
    by_magic (mapped standard_from_32 (record_at 28 (standard_32_record Little) 0))
    (mapped standard_from_64 (record_at 24 (standard_64_record Little) 0)) magic

-- the Windows fields, which follow the standard fields
unfoldable pub windows_by : ℕ → Reading WindowsFields64
windows_by magic =
    by_magic (record_at 68 (windows_record 4 Little) 28) (record_at 88 (windows_record 8 Little) 24)
    magic

-- the fields before the data directories
abbrev pub fields_with : ℕ → StandardFields × WindowsFields64 → FixedFields
fields_with magic both = record {
  standard_fields = both.0;
  windows_fields = both.1;
  size = fields_size magic;
}

unfoldable pub fixed_fields : ℕ → Reading FixedFields
fixed_fields magic = mapped (fields_with magic) (standard_by magic beside windows_by magic)

-- how many data directories follow these fields
abbrev pub count_after : FixedFields → ℕ
count_after fields = fields.windows_fields.number_of_rva_and_sizes

-- the size in bytes of the optional header with these fields
abbrev pub size_of : FixedFields → ℕ
size_of fields = fields.size + 8 * count_after fields

-- the data directories after these fields, as many as the last field says
abbrev pub entries_after : FixedFields → Reading (List (Option (ℕ × DataDirectory)))
entries_after fields = directories_at (count_after fields) fields.size

-- there are no more than sixteen data directories after these fields, and room for them
abbrev pub AreThere : List ℕ → FixedFields → Type 0
AreThere bytes fields =
    (count_after fields ≤ 16) × (0 < count_after fields → size_of fields ≤ length bytes)

-- the optional header with these fields and data directories
abbrev pub with_entries : FixedFields → List (Option (ℕ × DataDirectory)) → OptionalHeader
with_entries fields entries = record {
  standard_fields = fields.standard_fields;
  windows_fields = fields.windows_fields;
  data_directories = record { data_directories = entries };
}

-- the optional header at the front of bytes, always little-endian, and its size in bytes: its
-- magic, its fields, and the data directories after them
unfoldable pub optional_header : Reading (OptionalHeader × ℕ)
optional_header =
    number_at Little 2 0 >>= λ magic. fixed_fields magic >>= λ fields.
    mapped (λ entries. (with_entries fields entries, size_of fields)) (entries_after fields)

-- what `read` finds at the front of the optional header at p, which exists if its size is not 0;
-- the size says nothing else
abbrev pub optional_with : {A B : Type 0} → (A → B) → Reading A → ℕ → ℕ → Reading (Option B)
optional_with part read size p =
    pick (size == 0) (given None) (mapped (λ x. Some (part x)) (in_rest p read))

-- the optional header at p
unfoldable pub optional_at : ℕ → ℕ → Reading (Option OptionalHeader)
optional_at size p = optional_with (λ header. header.0) optional_header size p

-- ---- the whole header

-- the parts from a signature on
pub record SignedParts : Type 0 where
  pub signature : ℕ
  pub coff_header : CoffHeader
  pub optional_header : Option OptionalHeader

-- the COFF header after a signature at p, and the optional header after that
abbrev pub coff_parts : ℕ → Reading (CoffHeader × Option OptionalHeader)
coff_parts p =
    record_at 20 (coff_header Little) (p + 4)
    >>= λ coff. mapped (λ optional. (coff, optional))
    (optional_at coff.size_of_optional_header (p + 24))

-- the parts from the signature at p on
unfoldable pub parts_at : ℕ → Reading SignedParts
parts_at p =
    mapped
    (λ both.
    record { signature = both.0; coff_header = both.1.0; optional_header = both.1.1 })
    (signature_at p beside coff_parts p)

-- a header of its parts
abbrev pub header_of : DosHeader → List ℕ → Option Rich → SignedParts → PeHeader
header_of dos stub rich parts = record {
  dos_header = dos;
  dos_stub = stub;
  rich_header = rich;
  signature = parts.signature;
  coff_header = parts.coff_header;
  optional_header = parts.optional_header;
}

-- the header whose signature is at p, with these parts before it
unfoldable pub header_at : DosHeader → List ℕ → Option Rich → ℕ → Reading PeHeader
header_at dos stub rich p = mapped (header_of dos stub rich) (parts_at p)

-- the Rich header before a signature at p, and the parts from there on
abbrev pub rich_and_parts : ℕ → Reading (Option Rich × SignedParts)
rich_and_parts p = rich_at p beside parts_at p

-- the header whose signature is where this DOS header points
abbrev pub header_after : Bool → DosHeader → Reading PeHeader
header_after strict dos =
    mapped (λ all. header_of dos all.0 all.1.0 all.1.1)
    (stub_in strict dos.pe_pointer beside rich_and_parts dos.pe_pointer)

-- the header of a file
unfoldable pub pe_header : Bool → Reading PeHeader
pe_header strict = dos_header >>= header_after strict

-- the header of bytes that begin with a signature, whatever it is, after a DOS header of zeros and
-- the default stub
unfoldable pub header_without_dos : Reading PeHeader
header_without_dos = header_at zero_dos_header default_stub None 0
