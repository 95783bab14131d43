-- What is written of the records of a caller.
use Rattle.std.specs.Prelude.{◌≡◌, ◌==◌, if◌then◌else◌, ℕ, Bool, List, [], length, map}
use Rattle.std.specs.Prelude.{IsSomeAnd, Option, None, Some, Result, Ok, Err, option_and_then}
use Rattle.goblin_base.specs.declared.endian.Endian.TheVariants.{Little}
use Rattle.goblin_base.specs.{declared.error.ErrorOf.ErrorOf, Bytes.overwritten, Reading.Reading}
use Rattle.goblin_base.specs.Record.{encoding}
use Rattle.goblin_base.specs.Answers.{FirstFault, IsSliceFault}
use Rattle.readings.specs.Reads.{given, pick, slice_at}
use Rattle.goblin_pe_head.specs.DosStub.{default_stub}
use Rattle.goblin_pe_sect.specs.declared.data_directories.DataDirectory.{DataDirectory}
use Rattle.goblin_pe_sect.specs.SectionTable.{section_fields}
use Rattle.goblin_pe_head.specs.declared.optional_header.OptionalHeader.{OptionalHeader}
use Rattle.goblin_pe_head.specs.PeHeader.{IsUnwrittenPart, PeHeader, header_bytes}
use Rattle.goblin_pe_c_headers.specs.{Images.PeImage, declared.section.PeSection.PeSection}
use Rattle.goblin_pe_c_headers.specs.Sections.{section_model}

-- ---- what records say

-- the entry of a directory; where its record ends does not matter
abbrev pub entry_from_c : DataDirectory → Option (ℕ × DataDirectory)
entry_from_c d = Some (0, d)

abbrev pub optional_from_c : PeImage → Option OptionalHeader
optional_from_c image =
    if image.has_optional_header
    then Some (record {
      standard_fields = image.optional_header.standard_fields;
      windows_fields = image.optional_header.windows_fields;
      data_directories = record { data_directories = map entry_from_c image.directories };
    })
    else None

-- the header, its Rich header part of the stub, with the PE signature
abbrev pub header_from_c : PeImage → List ℕ → PeHeader
header_from_c image stub = record {
  dos_header = image.dos_header;
  dos_stub = stub;
  rich_header = None;
  signature = 0x4550;
  coff_header = image.coff_header;
  optional_header = optional_from_c image;
}

-- the DOS stub: the built-in one, or bytes of the file
abbrev pub image_stub : PeImage → Reading (List ℕ)
image_stub image =
    pick image.is_dos_stub_replaced (given default_stub)
    (pick (image.dos_stub_size == 0) (given []) (slice_at 64 image.dos_stub_size))

-- ---- what calls do

-- what a caller passes in to be written to: bytes, and how many were written
pub record Output : Type 0 where
  pub out : List ℕ
  pub written : ℕ

-- A call has made this change to the bytes and given its size; or there is no such change, the
-- cause is true, and everything is unchanged.
abbrev pub WritesOut : Option (List ℕ) → (ℕ → Type 0) → (ErrorOf → Type 0) → Output → Output
    → Result Unit ErrorOf → Type 0
WritesOut change IsSize IsCause old new (Ok x) = (change ≡ Some new.out) × IsSize new.written
WritesOut change IsSize IsCause old new (Err e) = (change ≡ None) × IsCause e × (new ≡ old)

-- A call has written the header that records say to the front of bytes, and given its size; without
-- any room it gave the size alone.
abbrev pub WritesHeader : PeImage → Output → Output → Result Unit ErrorOf → Type 0
WritesHeader image old new =
    let stub = (image_stub image).value image.bytes.now in
    let made = option_and_then (λ s. header_bytes Little (header_from_c image s)) stub in
    WritesOut (option_and_then (λ (header : List ℕ).
    if length old.out == 0 then Some old.out else overwritten old.out 0 header) made)
    (λ size. IsSomeAnd made (λ header. size ≡ length header))
    (FirstFault stub ((image_stub image).IsCause image.bytes.now) (λ s.
    FirstFault made (IsUnwrittenPart (optional_from_c image))
    (λ header. IsSliceFault old.out 0 (length header))))
    old new

-- A call has written the header of a section to the front of bytes.
abbrev pub WritesSection : PeSection → Output → Output → Result Unit ErrorOf → Type 0
WritesSection section old new =
    WritesOut (overwritten old.out 0 (encoding Little (section_fields (section_model section))))
    (λ size. size ≡ 40) (IsSliceFault old.out 0 40) old new
