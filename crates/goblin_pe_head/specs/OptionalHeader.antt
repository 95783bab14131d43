-- The optional header: standard fields and Windows fields in the width that the magic gives, and
-- then the data directories.
use Rattle.std.specs.List.{concat}
use Rattle.std.specs.Prelude.{◌≡◌, ◌≢◌, ◌⊎◌, ℕ, ◌+◌, ◌*◌, ◌%◌, ◌^◌, ◌==◌, if◌then◌else◌, List, []}
use Rattle.std.specs.Prelude.{◌∷◌, nat_lt, Option, Some, None, Result, option_map}
use Rattle.goblin_base.specs.{declared.endian.Endian.Endian, declared.error.ErrorOf.ErrorOf}
use Rattle.goblin_base.specs.declared.error.CauseOf.TheVariants.{FieldTooWide}
use Rattle.goblin_base.specs.{declared.container.Container.Container, Bytes.number}
use Rattle.goblin_base.specs.Record.FieldValue.{uint}
use Rattle.goblin_base.specs.declared.error.ErrorOf.TheVariants.{BadMagic, Malformed}
use Rattle.goblin_base.specs.declared.container.Container.TheVariants as container
use Rattle.goblin_base.specs.Answers.{Answers, ◌>>=◌}
use Rattle.goblin_base.specs.Record.{FieldValue, encoding}
use Rattle.goblin_pe_sect.specs.DataDirectories.{entries_fields}
use Rattle.goblin_pe_head.specs.declared.optional_header.standard_fields as standard
pub use standard.StandardFields32.{StandardFields32}
pub use standard.StandardFields64.{StandardFields64}
pub use standard.StandardFields.{StandardFields}
use Rattle.goblin_pe_head.specs.declared.optional_header.windows_fields as windows
pub use windows.WindowsFields32.{WindowsFields32}
pub use windows.WindowsFields64.{WindowsFields64}
pub use Rattle.goblin_pe_head.specs.declared.optional_header.OptionalHeader.{OptionalHeader}
use Rattle.goblin_pe_head.specs.declared.optional_header.WrittenHeader.{WrittenHeader}
use Rattle.goblin_pe_head.specs.declared.optional_header.WrittenHeader.TheVariants.{Absent, Narrow}
use Rattle.goblin_pe_head.specs.declared.optional_header.WrittenHeader.TheVariants.{Wide}

-- Source: PE Format, "Optional Header (Image Only)".

-- the standard fields for 32 bits in a record's 28 bytes
abbrev pub standard_32_record : Endian → List ℕ → StandardFields32
standard_32_record endian bytes = record {
  magic = number endian 2 bytes 0;
  major_linker_version = number endian 1 bytes 2;
  minor_linker_version = number endian 1 bytes 3;
  size_of_code = number endian 4 bytes 4;
  size_of_initialized_data = number endian 4 bytes 8;
  size_of_uninitialized_data = number endian 4 bytes 12;
  address_of_entry_point = number endian 4 bytes 16;
  base_of_code = number endian 4 bytes 20;
  base_of_data = number endian 4 bytes 24;
}

-- their fields, in order
abbrev pub standard_32_fields : StandardFields32 → List FieldValue
standard_32_fields f =
    uint 2 f.magic ∷ uint 1 f.major_linker_version ∷ uint 1 f.minor_linker_version
    ∷ uint 4 f.size_of_code
    ∷ uint 4 f.size_of_initialized_data ∷ uint 4 f.size_of_uninitialized_data
    ∷ uint 4 f.address_of_entry_point
    ∷ uint 4 f.base_of_code ∷ uint 4 f.base_of_data ∷ []

-- the standard fields for 64 bits in a record's 24 bytes
abbrev pub standard_64_record : Endian → List ℕ → StandardFields64
standard_64_record endian bytes = record {
  magic = number endian 2 bytes 0;
  major_linker_version = number endian 1 bytes 2;
  minor_linker_version = number endian 1 bytes 3;
  size_of_code = number endian 4 bytes 4;
  size_of_initialized_data = number endian 4 bytes 8;
  size_of_uninitialized_data = number endian 4 bytes 12;
  address_of_entry_point = number endian 4 bytes 16;
  base_of_code = number endian 4 bytes 20;
}

-- their fields, in order
abbrev pub standard_64_fields : StandardFields64 → List FieldValue
standard_64_fields f =
    uint 2 f.magic ∷ uint 1 f.major_linker_version ∷ uint 1 f.minor_linker_version
    ∷ uint 4 f.size_of_code
    ∷ uint 4 f.size_of_initialized_data ∷ uint 4 f.size_of_uninitialized_data
    ∷ uint 4 f.address_of_entry_point
    ∷ uint 4 f.base_of_code ∷ []

-- the Windows fields in a record's 48 + 5 w bytes; five of them have w bytes each: 4 for 32 bits, 8
-- for 64 bits
abbrev pub windows_record : ℕ → Endian → List ℕ → WindowsFields64
windows_record w endian bytes = record {
  image_base = number endian w bytes 0;
  section_alignment = number endian 4 bytes w;
  file_alignment = number endian 4 bytes (w + 4);
  major_operating_system_version = number endian 2 bytes (w + 8);
  minor_operating_system_version = number endian 2 bytes (w + 10);
  major_image_version = number endian 2 bytes (w + 12);
  minor_image_version = number endian 2 bytes (w + 14);
  major_subsystem_version = number endian 2 bytes (w + 16);
  minor_subsystem_version = number endian 2 bytes (w + 18);
  win32_version_value = number endian 4 bytes (w + 20);
  size_of_image = number endian 4 bytes (w + 24);
  size_of_headers = number endian 4 bytes (w + 28);
  check_sum = number endian 4 bytes (w + 32);
  subsystem = number endian 2 bytes (w + 36);
  dll_characteristics = number endian 2 bytes (w + 38);
  size_of_stack_reserve = number endian w bytes (w + 40);
  size_of_stack_commit = number endian w bytes (2 * w + 40);
  size_of_heap_reserve = number endian w bytes (3 * w + 40);
  size_of_heap_commit = number endian w bytes (4 * w + 40);
  loader_flags = number endian 4 bytes (5 * w + 40);
  number_of_rva_and_sizes = number endian 4 bytes (5 * w + 44);
}

-- their fields, in order
abbrev pub windows_record_fields : ℕ → WindowsFields64 → List FieldValue
windows_record_fields w f =
    uint w f.image_base ∷ uint 4 f.section_alignment ∷ uint 4 f.file_alignment
    ∷ uint 2 f.major_operating_system_version
    ∷ uint 2 f.minor_operating_system_version ∷ uint 2 f.major_image_version
    ∷ uint 2 f.minor_image_version
    ∷ uint 2 f.major_subsystem_version ∷ uint 2 f.minor_subsystem_version
    ∷ uint 4 f.win32_version_value
    ∷ uint 4 f.size_of_image ∷ uint 4 f.size_of_headers ∷ uint 4 f.check_sum ∷ uint 2 f.subsystem
    ∷ uint 2 f.dll_characteristics ∷ uint w f.size_of_stack_reserve ∷ uint w f.size_of_stack_commit
    ∷ uint w f.size_of_heap_reserve ∷ uint w f.size_of_heap_commit ∷ uint 4 f.loader_flags
    ∷ uint 4 f.number_of_rva_and_sizes ∷ []

-- the same fields, as those for 32 bits; the five wide ones are taken to fit
abbrev pub as_windows_32 : WindowsFields64 → WindowsFields32
as_windows_32 s = record {
  image_base = s.image_base;
  section_alignment = s.section_alignment;
  file_alignment = s.file_alignment;
  major_operating_system_version = s.major_operating_system_version;
  minor_operating_system_version = s.minor_operating_system_version;
  major_image_version = s.major_image_version;
  minor_image_version = s.minor_image_version;
  major_subsystem_version = s.major_subsystem_version;
  minor_subsystem_version = s.minor_subsystem_version;
  win32_version_value = s.win32_version_value;
  size_of_image = s.size_of_image;
  size_of_headers = s.size_of_headers;
  check_sum = s.check_sum;
  subsystem = s.subsystem;
  dll_characteristics = s.dll_characteristics;
  size_of_stack_reserve = s.size_of_stack_reserve;
  size_of_stack_commit = s.size_of_stack_commit;
  size_of_heap_reserve = s.size_of_heap_reserve;
  size_of_heap_commit = s.size_of_heap_commit;
  loader_flags = s.loader_flags;
  number_of_rva_and_sizes = s.number_of_rva_and_sizes;
}

-- the Windows fields of either width, from those for 32 bits
abbrev pub windows_from_32 : WindowsFields32 → WindowsFields64
windows_from_32 s = record {
  image_base = s.image_base;
  section_alignment = s.section_alignment;
  file_alignment = s.file_alignment;
  major_operating_system_version = s.major_operating_system_version;
  minor_operating_system_version = s.minor_operating_system_version;
  major_image_version = s.major_image_version;
  minor_image_version = s.minor_image_version;
  major_subsystem_version = s.major_subsystem_version;
  minor_subsystem_version = s.minor_subsystem_version;
  win32_version_value = s.win32_version_value;
  size_of_image = s.size_of_image;
  size_of_headers = s.size_of_headers;
  check_sum = s.check_sum;
  subsystem = s.subsystem;
  dll_characteristics = s.dll_characteristics;
  size_of_stack_reserve = s.size_of_stack_reserve;
  size_of_stack_commit = s.size_of_stack_commit;
  size_of_heap_reserve = s.size_of_heap_reserve;
  size_of_heap_commit = s.size_of_heap_commit;
  loader_flags = s.loader_flags;
  number_of_rva_and_sizes = s.number_of_rva_and_sizes;
}

-- the Windows fields for 32 bits in a record's 68 bytes, and their fields, in order
abbrev pub windows_32_record : Endian → List ℕ → WindowsFields32
windows_32_record endian bytes = as_windows_32 (windows_record 4 endian bytes)

abbrev pub windows_32_fields : WindowsFields32 → List FieldValue
windows_32_fields f = windows_record_fields 4 (windows_from_32 f)

-- the standard fields of either width, from those for 32 bits
unfoldable pub standard_from_32 : StandardFields32 → StandardFields
standard_from_32 s = record {
  magic = s.magic;
  major_linker_version = s.major_linker_version;
  minor_linker_version = s.minor_linker_version;
  size_of_code = s.size_of_code;
  size_of_initialized_data = s.size_of_initialized_data;
  size_of_uninitialized_data = s.size_of_uninitialized_data;
  address_of_entry_point = s.address_of_entry_point;
  base_of_code = s.base_of_code;
  base_of_data = s.base_of_data;
}

-- the standard fields of either width, from those for 64 bits, which have no base of data
unfoldable pub standard_from_64 : StandardFields64 → StandardFields
standard_from_64 s = record {
  magic = s.magic;
  major_linker_version = s.major_linker_version;
  minor_linker_version = s.minor_linker_version;
  size_of_code = s.size_of_code;
  size_of_initialized_data = s.size_of_initialized_data;
  size_of_uninitialized_data = s.size_of_uninitialized_data;
  address_of_entry_point = s.address_of_entry_point;
  base_of_code = s.base_of_code;
  base_of_data = 0;
}

-- the standard fields for 32 bits, each modulo 2 ^ 32
unfoldable pub standard_to_32 : StandardFields → StandardFields32
standard_to_32 s = record {
  magic = s.magic;
  major_linker_version = s.major_linker_version;
  minor_linker_version = s.minor_linker_version;
  size_of_code = s.size_of_code % 2 ^ 32;
  size_of_initialized_data = s.size_of_initialized_data % 2 ^ 32;
  size_of_uninitialized_data = s.size_of_uninitialized_data % 2 ^ 32;
  address_of_entry_point = s.address_of_entry_point;
  base_of_code = s.base_of_code % 2 ^ 32;
  base_of_data = s.base_of_data;
}

-- the standard fields for 64 bits, each modulo 2 ^ 32
unfoldable pub standard_to_64 : StandardFields → StandardFields64
standard_to_64 s = record {
  magic = s.magic;
  major_linker_version = s.major_linker_version;
  minor_linker_version = s.minor_linker_version;
  size_of_code = s.size_of_code % 2 ^ 32;
  size_of_initialized_data = s.size_of_initialized_data % 2 ^ 32;
  size_of_uninitialized_data = s.size_of_uninitialized_data % 2 ^ 32;
  address_of_entry_point = s.address_of_entry_point;
  base_of_code = s.base_of_code % 2 ^ 32;
}

-- a number that fits 32 bits
abbrev pub narrowed : ℕ → Option ℕ
narrowed n = if nat_lt n (2 ^ 32) then Some n else None

-- the refusal is that a field does not fit 32 bits
abbrev pub IsTooWide : ErrorOf → Type 0
IsTooWide (Malformed FieldTooWide) = Unit {0}
IsTooWide e = ⊥

-- the Windows fields for 32 bits, if the five wide fields fit
unfoldable pub windows_to_32 : WindowsFields64 → Option WindowsFields32
windows_to_32 s = do
  image_base ← narrowed s.image_base
  size_of_stack_reserve ← narrowed s.size_of_stack_reserve
  size_of_stack_commit ← narrowed s.size_of_stack_commit
  size_of_heap_reserve ← narrowed s.size_of_heap_reserve
  size_of_heap_commit ← narrowed s.size_of_heap_commit
  Some (as_windows_32 (record s {
    image_base = image_base;
    size_of_stack_reserve = size_of_stack_reserve;
    size_of_stack_commit = size_of_stack_commit;
    size_of_heap_reserve = size_of_heap_reserve;
    size_of_heap_commit = size_of_heap_commit;
  }))

-- what the conversion to 32 bits returns
abbrev pub NarrowsWindows : WindowsFields64 → Result WindowsFields32 ErrorOf → Type 0
NarrowsWindows s made = Answers (λ w. w) made (windows_to_32 s) IsTooWide

-- the refusal is that no optional header has this magic
abbrev pub IsBadMagic : ℕ → ErrorOf → Type 0
IsBadMagic magic (BadMagic m) = (m ≡ magic) × (magic ≢ 0x10B) × (magic ≢ 0x20B)
IsBadMagic magic e = ⊥

-- the width of the image, which the magic gives
abbrev pub container_of : ℕ → Option Container
container_of magic =
    if magic == 0x10B
    then Some container.Little
    else if magic == 0x20B then Some container.Big else None

-- the size in bytes of the fields before the data directories, which the magic gives
abbrev pub fields_size : ℕ → ℕ
fields_size magic = if magic == 0x10B then 96 else 112

-- The written form of an optional header for 32 bits, if the five wide fields fit: standard fields,
-- Windows fields and sixteen data directories.
abbrev pub bytes_32 : Endian → OptionalHeader → Option (List ℕ)
bytes_32 endian h =
    option_map (λ windows. concat (
    encoding endian (standard_32_fields (standard_to_32 h.standard_fields))
    ∷ encoding endian (windows_32_fields windows)
    ∷ encoding endian (entries_fields h.data_directories.data_directories)
    ∷ []
    )) (windows_to_32 h.windows_fields)

-- The written form of an optional header for 64 bits: standard fields, Windows fields and sixteen
-- data directories.
abbrev pub bytes_64 : Endian → OptionalHeader → List ℕ
bytes_64 endian h = concat (
    encoding endian (standard_64_fields (standard_to_64 h.standard_fields))
    ∷ encoding endian (windows_record_fields 8 h.windows_fields)
    ∷ encoding endian (entries_fields h.data_directories.data_directories)
    ∷ []
    )

-- the written form of an optional header, in the width that the magic gives; another magic has none
unfoldable pub optional_bytes : Endian → OptionalHeader → Option (List ℕ)
optional_bytes endian h =
    if h.standard_fields.magic == 0x10B then bytes_32 endian h
    else if h.standard_fields.magic == 0x20B then Some (bytes_64 endian h)
    else None

-- which cause is true of an optional header that has no written form: its magic is unknown, or the
-- magic is for 32 bits and a wide field does not fit
abbrev pub IsUnwritten : OptionalHeader → ErrorOf → Type 0
IsUnwritten h e =
    IsBadMagic h.standard_fields.magic e
    ⊎ ((h.standard_fields.magic ≡ 0x10B) × (windows_to_32 h.windows_fields ≡ None) × IsTooWide e)

-- the bytes that are written, of either width or of none
abbrev pub written_bytes : WrittenHeader → List ℕ
written_bytes Absent = []
written_bytes (Narrow bytes) = bytes
written_bytes (Wide bytes) = bytes
