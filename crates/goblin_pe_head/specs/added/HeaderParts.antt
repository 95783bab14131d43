-- The parts of a file's header, each by itself, and the section headers that are there.
use Rattle.std.specs.Prelude.{◌≡◌, ℕ, ◌+◌, ◌-◌, ◌*◌, ◌/◌, ◌==◌, List, [], Bool, Option, None}
use Rattle.std.specs.Prelude.{Result, Ok, Err, IfSome, min, option_map, replicate, unwrap_or}
use Rattle.goblin_base.specs.declared.error.ErrorOf.{ErrorOf}
use Rattle.goblin_base.specs.declared.endian.Endian.TheVariants.{Little}
use Rattle.goblin_base.specs.Reading.{Reading, Reads}
use Rattle.readings.specs.Reads.{◌>>=◌, file_length, given, mapped, number_at, pick, record_at}
use Rattle.readings.specs.Reads.{slice_at}
use Rattle.goblin_pe_sect.specs.declared.data_directories.DataDirectories.{DataDirectories}
use Rattle.goblin_pe_sect.specs.declared.data_directories.DataDirectory.{DataDirectory}
use Rattle.goblin_pe_sect.specs.DirectoryReadings.{directories_at}
use Rattle.goblin_pe_sect.specs.SectionTable.{Section, recorded_sections, sections_in}
use Rattle.goblin_pe_head.specs.CoffHeader.{CoffHeader, coff_header}
use Rattle.goblin_pe_head.specs.declared.added.parts.HeaderParts.{HeaderParts}
use Rattle.goblin_pe_head.specs.{CoffReadings.with_room, PeHeader.PeHeader}
use Rattle.goblin_pe_head.specs.OptionalHeader.{OptionalHeader, StandardFields, WindowsFields64}
use Rattle.goblin_pe_head.specs.OptionalHeader.{fields_size}
use Rattle.goblin_pe_head.specs.HeaderReadings.{dos_header, optional_with, pe_header, standard_by}
use Rattle.goblin_pe_head.specs.HeaderReadings.{windows_by}

-- Source: PE Format, "File Headers".

-- ---- the COFF header

-- the file offset just past the COFF header, where the optional header begins, and the COFF header
-- itself, which follows the signature that the DOS header points to
unfoldable pub placed_coff : Reading (ℕ × CoffHeader)
placed_coff =
    dos_header
    >>= λ dos. mapped (λ coff. (dos.pe_pointer + 24, coff))
    (record_at 20 (coff_header Little) (dos.pe_pointer + 4))

abbrev pub coff_part : Reading CoffHeader
coff_part = mapped (λ placed. placed.1) placed_coff

-- ---- the optional header

-- what `read` finds at the front of the optional header
abbrev pub optional_part : {A : Type 0} → Reading A → Reading (Option A)
optional_part read =
    placed_coff
    >>= λ placed. optional_with (λ x. x) read placed.1.size_of_optional_header placed.0

unfoldable pub standard_front : Reading StandardFields
standard_front = number_at Little 2 0 >>= standard_by

unfoldable pub windows_front : Reading WindowsFields64
windows_front = number_at Little 2 0 >>= windows_by

-- the data directories, which follow the Windows fields: as many as the last field says, but at
-- most sixteen
unfoldable pub directories_front : Reading (List (Option (ℕ × DataDirectory)))
directories_front =
    number_at Little 2 0 >>= λ magic. windows_by magic
    >>= λ fields. directories_at (min fields.number_of_rva_and_sizes 16) (fields_size magic)

-- ---- the section headers

-- The sections of `count` section headers at p, without their names from the string table. If
-- `count` is 0, p does not matter.
abbrev pub sections_there : ℕ → ℕ → Reading (List Section)
sections_there count p =
    pick (count == 0) (given []) (mapped sections_in (slice_at p (40 * count)))

-- the sections of a section table; no name is tested
abbrev pub unnamed_sections : ℕ → ℕ → Reading (List Section)
unnamed_sections count p = with_room count (sections_there count p)

-- the sections at p: `count`, or as many as the file has, if it has fewer
abbrev pub whole_sections : ℕ → ℕ → Reading (List Section)
whole_sections count p =
    file_length >>= λ length. sections_there (min count ((length - p) / 40)) p

-- the file offset of the section table, which the COFF header gives by the size of the optional
-- header
abbrev pub table_after : ℕ × CoffHeader → ℕ
table_after placed = placed.0 + placed.1.size_of_optional_header

unfoldable pub sections_part : Reading (List Section)
sections_part =
    placed_coff >>= λ placed. whole_sections placed.1.number_of_sections (table_after placed)

-- ---- all of them

-- Each part is read by itself: it is given, or refused with a cause that is true of it.
pub record ArePartsOf (bytes : List ℕ) (parts : HeaderParts) : Type 0 where
  pub dos_header : Reads (λ h. h) parts.dos_header dos_header bytes
  pub coff_header : Reads (λ h. h) parts.coff_header coff_part bytes
  pub standard_fields : Reads (λ f. f) parts.standard_fields (optional_part standard_front) bytes
  pub windows_fields : Reads (λ f. f) parts.windows_fields (optional_part windows_front) bytes
  pub data_directories : Reads (option_map (λ d. d.data_directories)) parts.data_directories
      (optional_part directories_front) bytes
  pub section_table : parts.section_table ≡ option_map table_after (placed_coff.value bytes)
  pub section_records : Reads recorded_sections parts.section_records sections_part bytes

-- ---- what is known of an optional header

-- Windows fields of zeros
abbrev pub zero_windows_fields : WindowsFields64
zero_windows_fields = record {
  image_base = 0;
  section_alignment = 0;
  file_alignment = 0;
  major_operating_system_version = 0;
  minor_operating_system_version = 0;
  major_image_version = 0;
  minor_image_version = 0;
  major_subsystem_version = 0;
  minor_subsystem_version = 0;
  win32_version_value = 0;
  size_of_image = 0;
  size_of_headers = 0;
  check_sum = 0;
  subsystem = 0;
  dll_characteristics = 0;
  size_of_stack_reserve = 0;
  size_of_stack_commit = 0;
  size_of_heap_reserve = 0;
  size_of_heap_commit = 0;
  loader_flags = 0;
  number_of_rva_and_sizes = 0;
}

-- the part of an optional header, if it could be read
abbrev pub part_given : {A : Type 0} → Result (Option A) ErrorOf → Option A
part_given (Ok part) = part
part_given (Err e) = None

-- The optional header of the parts that could be read. There is none without standard fields.
-- Windows fields that are missing are zeros, and data directories that are missing are none.
abbrev pub known_optional : HeaderParts → Option OptionalHeader
known_optional parts =
    let none : DataDirectories = record { data_directories = replicate 16 None } in
    option_map (λ standard. record {
      standard_fields = standard;
      windows_fields = unwrap_or (part_given parts.windows_fields) zero_windows_fields;
      data_directories = unwrap_or (part_given parts.data_directories) none;
    }) (part_given parts.standard_fields)

-- If a header is read as a whole, the parts that are read by themselves are its parts.
pub record AreOfHeader (h : PeHeader) (parts : HeaderParts) : Type 0 where
  pub dos : parts.dos_header ≡ Ok h.dos_header
  pub coff : parts.coff_header ≡ Ok h.coff_header
  pub optional : known_optional parts ≡ h.optional_header

abbrev pub AreOfWhole : List ℕ → HeaderParts → Type 0
AreOfWhole bytes parts =
    (strict : Bool) → IfSome ((pe_header strict).value bytes) (λ h. AreOfHeader h parts)
