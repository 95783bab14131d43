-- The record of an image as far as its header goes.
use Rattle.std.specs.Prelude.{◌≡◌, ◌&&◌, ℕ, Bool, if◌then◌else◌, List, [], length, map}
use Rattle.std.specs.Prelude.{min, option_map, Option, Some, None, Result, Ok, Err, IsSome}
use Rattle.std.specs.Prelude.{MatchResult, is_err, is_ok, nat_lt}
use Rattle.std.specs.Option.{is_some, unwrap_or}
use Rattle.goblin_base.specs.declared.error.ErrorOf.{ErrorOf}
use Rattle.goblin_base.specs.Reading.{IsRefused, Reading, Reads}
use Rattle.readings.specs.Reads.{◌>>=◌}
use Rattle.goblin_pe_sect.specs.declared.section_table.records.SectionRecords.{SectionRecords}
use Rattle.goblin_pe_sect.specs.Options.{is_strict}
use Rattle.goblin_pe_sect.specs.SectionTable.{Section, recorded_sections, unnamed}
use Rattle.goblin_pe_head.specs.declared.header.coff.CoffHeader.{CoffHeader}
use Rattle.goblin_pe_head.specs.declared.added.parts.HeaderParts.{HeaderParts}
use Rattle.goblin_pe_head.specs.declared.header.rich.RichHeader.{RichHeader}
use Rattle.goblin_pe_head.specs.OptionalHeader.{WindowsFields64}
use Rattle.goblin_pe_head.specs.{declared.header.stub.DosStub.DosStub, CoffHeader.symbols_end}
use Rattle.goblin_pe_head.specs.{CoffReadings.sections_at, RichHeader.rich_value}
use Rattle.goblin_pe_head.specs.DosStub.{default_stub, stub_bytes}
use Rattle.goblin_pe_head.specs.added.HeaderParts.{AreOfWhole, ArePartsOf, known_optional}
use Rattle.goblin_pe_head.specs.added.HeaderParts.{unnamed_sections}
use Rattle.goblin_pe_head.specs.HeaderReadings.{dos_header, pe_header, rich_header, stub_at}
use Rattle.goblin_pe_head.specs.PeHeader.{PeHeader, zero_coff_header, zero_dos_header}
use Rattle.goblin_pe.specs.Whole.{layout, places_in, sections_after}
use Rattle.goblin_pe_c_headers.specs.declared.fault.PeFault.{PeFault}
use Rattle.goblin_pe_c_headers.specs.declared.image.PeImage.{PeImage}
use Rattle.goblin_pe_c_headers.specs.{declared.options.PeOptions.PeOptions, Headers.optional_record}
use Rattle.goblin_pe_c_headers.specs.{Options.header_options, RichHeaders.rich_of}
use Rattle.goblin_pe_c_headers.specs.{Calls.ReadsWithout, Faults.fault, Faults.fault_of}
use Rattle.goblin_pe_c_headers.specs.Faults.{status_of}
use Rattle.goblin_pe_c_headers.specs.ImageRecords.{IsImage, zero_image}
use Rattle.goblin_pe_c_headers.specs.Places.{image_places, placed_sections}
use Rattle.goblin_pe_c_tables.specs.declared.partial.PeHeaderFaults.{PeHeaderFaults}
use Rattle.goblin_pe_c_tables.specs.ReadImages.{image_of}

-- ---- the parts

-- a part that is given, or what replaces a refused one
abbrev pub given_or : {A : Type 0} → A → Result A ErrorOf → A
given_or other (Ok part) = part
given_or other (Err e) = other

abbrev pub sections_of : Result SectionRecords ErrorOf → List Section
sections_of (Ok records) = recorded_sections records
sections_of (Err e) = []

abbrev pub given_sections : HeaderParts → List Section
given_sections parts = sections_of parts.section_records

-- how many of the sections that the COFF header says are given
abbrev pub given_count : HeaderParts → ℕ
given_count parts =
    min (given_or zero_coff_header parts.coff_header).number_of_sections
    (length (given_sections parts))

-- all fields of the optional header before its directories are given
abbrev pub has_fields : HeaderParts → Bool
has_fields parts =
    is_some (given_or None parts.standard_fields) && is_some (given_or None parts.windows_fields)

abbrev pub file_stub : Reading (List ℕ)
file_stub = dos_header >>= λ h. stub_at h.pe_pointer

-- how many bytes the stub has; those of the built-in one if that replaces it
abbrev pub stub_size : Result DosStub ErrorOf → Bool → ℕ
stub_size (Ok stub) is_replaced = length (stub_bytes stub)
stub_size (Err e) is_replaced = if is_replaced then length default_stub else 0

-- an answer that says whether the reading has a value, and its fault
abbrev pub Tests : {A : Type 0} → Reading A → List ℕ → Result Unit ErrorOf → Type 0
Tests reading bytes r = MatchResult r (λ _. IsSome (reading.value bytes)) (IsRefused reading bytes)

-- the fault is that of such an answer
abbrev pub Tells : {A : Type 0} → Reading A → List ℕ → PeFault → Type 0
Tells reading bytes fault =
    (r : Result Unit ErrorOf) × (fault ≡ status_of r) × Tests reading bytes r

-- The faults are those of the section table, which has all section headers that a COFF header
-- counts, and of the names in the first `count` of them; of the COFF header, if that is refused.
abbrev pub AreTableFaults : List ℕ → Result CoffHeader ErrorOf → ℕ → ℕ → Bool → PeFault × PeFault
    → Type 0
AreTableFaults bytes (Ok h) table count strict faults =
    Tells (unnamed_sections h.number_of_sections table) bytes faults.0
    × Tells (sections_at strict (symbols_end h) count table) bytes faults.1
AreTableFaults bytes (Err e) table count strict faults =
    (faults.0 ≡ fault_of e) × (faults.1 ≡ fault_of e)

-- Where the header and the sections are read, these are the sections, without their names from the
-- string table.
abbrev pub AreOfLayout : List ℕ → HeaderParts → Type 0
AreOfLayout bytes parts =
    (strict : Bool) (h : PeHeader) (sections : List Section)
    → (pe_header strict).value bytes ≡ Some h
    → (sections_after strict h).value bytes ≡ Some sections
    → given_sections parts ≡ map unnamed sections

-- ---- the record

-- permissive mode replaces the stub: the DOS header is there, and the stub is not
abbrev pub is_replaced : PeOptions → HeaderParts → Result DosStub ErrorOf → Bool
is_replaced o parts stub = o.is_permissive && (is_ok parts.dos_header && is_err stub)

abbrev pub partial_image : PeOptions → HeaderParts → Result DosStub ErrorOf
    → Result (Option RichHeader) ErrorOf → PeImage → PeImage
partial_image o parts stub rich image =
    record (zero_image o 1 image) {
      section_table = unwrap_or parts.section_table 0;
      section_count = given_count parts;
      dos_header = given_or zero_dos_header parts.dos_header;
      coff_header = given_or zero_coff_header parts.coff_header;
      has_optional_header = has_fields parts;
      is_dos_stub_replaced = is_replaced o parts stub;
      optional_header = optional_record (known_optional parts);
      directories = (places_in (known_optional parts)).directories;
      dos_stub_size = stub_size stub (is_replaced o parts stub);
      rich_header = rich_of (option_map rich_value (given_or None rich));
    }

-- why the data directories can't be read; there are at most sixteen
abbrev pub directories_fault : Result (Option WindowsFields64) ErrorOf → PeFault → PeFault
directories_fault (Ok (Some f)) found =
    let count = f.number_of_rva_and_sizes in
    if nat_lt 16 count then fault 1 14 count 0 else found
directories_fault (Ok None) found = found
directories_fault (Err e) found = found

abbrev pub faults_of : HeaderParts → Result DosStub ErrorOf → Result (Option RichHeader) ErrorOf
    → PeFault × PeFault → PeHeaderFaults
faults_of parts stub rich table = record {
  dos_header = status_of parts.dos_header;
  dos_stub = status_of stub;
  rich_header = status_of rich;
  coff_header = status_of parts.coff_header;
  standard_fields = status_of parts.standard_fields;
  windows_fields = status_of parts.windows_fields;
  directories = directories_fault parts.windows_fields (status_of parts.data_directories);
  section_table = table.0;
  section_names = table.1;
}

-- the faults if no part is read, each for this reason
abbrev pub same_faults : PeFault → PeHeaderFaults
same_faults fault = record {
  dos_header = fault;
  dos_stub = fault;
  rich_header = fault;
  coff_header = fault;
  standard_fields = fault;
  windows_fields = fault;
  directories = fault;
  section_table = fault;
  section_names = fault;
}

-- The record of an image holds the parts of the header of a file. Walks by the record's places are
-- refused for no section.
abbrev pub HoldsParts : PeOptions → List ℕ → HeaderParts → Result DosStub ErrorOf
    → Result (Option RichHeader) ErrorOf → PeImage → Type 0
HoldsParts o bytes parts stub rich image =
    IsImage bytes image (partial_image o parts stub rich)
    × ((placed_sections (image_places image)).value bytes ≡ Some (given_sections parts))

-- The faults say why parts of the header of a file are refused. The answer, and the record of the
-- image if it is not refused, are those of a read of the image; else the record holds the parts.
pub record SaysPartial (o : PeOptions) (bytes : List ℕ) (new : PeImage × PeHeaderFaults)
    (answer : Result Unit ErrorOf) : Type 0 where
  pub parts : HeaderParts
  pub stub : Result DosStub ErrorOf
  pub rich : Result (Option RichHeader) ErrorOf
  pub table : PeFault × PeFault
  pub are : ArePartsOf bytes parts
  pub whole : AreOfWhole bytes parts
  pub sections : AreOfLayout bytes parts
  pub stub_read : Reads stub_bytes stub file_stub bytes
  pub rich_read : Reads (option_map rich_value) rich rich_header bytes
  pub table_read : AreTableFaults bytes parts.coff_header (unwrap_or parts.section_table 0)
      (given_count parts) (is_strict (header_options o).parse_mode) table
  pub faults : new.1 ≡ faults_of parts stub rich table
  pub image : ReadsWithout (layout (header_options o)) bytes
      (λ l. IsImage bytes new.0 (image_of o l.0)) (HoldsParts o bytes parts stub rich new.0) answer
