-- What is in memory at an address of an image, and the contents of a section: as a loader maps it.
use Rattle.std.specs.Prelude.{ℕ, ◌+◌, ◌-◌, ◌^◌, ◌==◌, ◌≡◌, ◌<◌, ◌&&◌, Bool, IsTrue, bit_and, max}
use Rattle.std.specs.Prelude.{min, not, nat_le, nat_lt, if◌then◌else◌, List, [], find, position}
use Rattle.std.specs.Prelude.{Option, Some, None, IsSomeAnd, length, option_and_then, slice_range}
use Rattle.std.specs.{Int.is_power_of_two, Option.option_or, Option.unwrap_or}
use Rattle.goblin_pe_sect.specs.{declared.options.Mapping.Mapping, Mapping.raw_begin}
use Rattle.goblin_pe_sect.specs.Mapping.{is_loaders, pages_size, read_size}
use Rattle.goblin_pe_sect.specs.{Options.mapping_in, SectionTable.Section}
use Rattle.goblin_pe_c_headers.specs.declared.memory.PeMemory.{PeMemory}
use Rattle.goblin_pe_c_headers.specs.{declared.memory.Region.Region, Images.PeImage}
use Rattle.goblin_pe_c_headers.specs.declared.memory.Region.TheVariants as region
use Rattle.goblin_pe_c_headers.specs.Options.{PeOptions, are_known, options_at, view_of}
use Rattle.goblin_pe_c_headers.specs.Addresses.{MappedImage, image_map, mapped_image}

-- Source: PE Format, "Section Table (Section Headers)", on the virtual size, the raw size and the
-- raw pointer, and "Section Flags", on uninitialized data. Loaders map whole file blocks: where a
-- section's window, by which its addresses are mapped, passes its virtual size, its memory does,
-- too.

-- ---- what a record says

abbrev pub region_number : Region → ℕ
region_number region.Unmapped = 0
region_number region.Headers = 1
region_number region.RawData = 2
region_number region.Zeros = 3

-- bytes, how many zeros follow them, how many bytes are missing after these, the section, and what
-- is at the first byte
pub record Memory : Type 0 where
  pub bytes : List ℕ
  pub zeros : ℕ
  pub missing : ℕ
  pub section_index : ℕ
  pub region : ℕ
  pub reserved : ℕ

abbrev pub memory_model : PeMemory → Memory
memory_model m = record {
  bytes = m.bytes.now;
  zeros = m.zeros;
  missing = m.missing;
  section_index = m.section_index;
  region = m.region;
  reserved = m.reserved;
}

-- these bytes and zeros are known
abbrev pub known : List ℕ × ℕ → ℕ → ℕ → Region → Memory
known found missing index where_from = record {
  bytes = found.0;
  zeros = found.1;
  missing = missing;
  section_index = index;
  region = region_number where_from;
  reserved = 0;
}

abbrev pub unknown : ℕ → ℕ → Memory
unknown missing index = known ([], 0) missing index region.Unmapped

-- ---- bytes that may be missing in the file

-- the first n bytes from p on, as far as the file has them
abbrev pub front_at : List ℕ → ℕ → ℕ → List ℕ
front_at bytes p n = slice_range bytes (min p (length bytes)) (min (p + n) (length bytes))

-- these, and how many zeros follow them: none if the file lacks some of the bytes
abbrev pub available : List ℕ → ℕ → ℕ → ℕ → List ℕ × ℕ
available bytes p n zeros =
    let found = front_at bytes p n in (found, if length found == n then zeros else 0)

-- ---- the contents of a section

-- a section's size in memory: its virtual size, and its raw size where that is 0
abbrev pub memory_size : Section → ℕ
memory_size s = if s.virtual_size == 0 then s.size_of_raw_data else s.virtual_size

-- The section is one of uninitialized data that has no place in the file: it has the bit
-- IMAGE_SCN_CNT_UNINITIALIZED_DATA, and its raw pointer is 0. The raw size is then that in memory,
-- as in objects.
abbrev pub is_unstored : Section → Bool
is_unstored s = not (bit_and s.characteristics 0x80 == 0) && s.pointer_to_raw_data == 0

-- how many bytes of a section are raw data: from where they begin, by the rule of the options, to
-- where they end as stored
abbrev pub stored_size : Mapping → Section → ℕ
stored_size mapping s =
    if is_unstored s
    then 0
    else s.pointer_to_raw_data + s.size_of_raw_data - raw_begin mapping s

-- The contents of a section of an image with this file alignment: its raw data as far as the file
-- has it, and, where it has all, the zeros that follow up to the size in memory. If the options are
-- not known, all is missing.
abbrev pub section_data : PeOptions → ℕ → List ℕ → ℕ → Section → Memory
section_data o alignment bytes index s =
    let mapping = mapping_in (view_of o) (options_at o alignment) in
    let stored = stored_size mapping s in
    let zeros = memory_size s - stored in
    let found = available bytes (raw_begin mapping s) stored zeros in
    if are_known o
    then known found (stored - length found.0) index
    (if stored == 0 then region.Zeros else region.RawData)
    else unknown (stored + zeros) index

-- ---- a section's memory

-- how many bytes a section's window has; there is none if the alignment is not a power of two
abbrev pub window_size : MappedImage → Section → ℕ
window_size m s =
    if is_power_of_two m.alignment then read_size m.mapping.view s m.alignment else 0

-- the address is one of the `length` addresses from the section's on
abbrev pub is_among : ℕ → ℕ → Section → Bool
is_among size rva s = nat_le s.virtual_address rva && nat_lt rva (s.virtual_address + size)

-- a loader maps sections in whole pages; with alignments below 512 and 4,096 it maps one flat file
unfoldable pub maps_pages : MappedImage → Bool
maps_pages m =
    is_loaders m.mapping.view && nat_le 512 m.alignment && nat_le 4096 m.section_alignment

-- how many bytes the section's memory has, in which its window lies: whole pages, or those of its
-- size or of its window
abbrev pub memory_length : MappedImage → Section → ℕ
memory_length m s =
    if maps_pages m then pages_size s else max (memory_size s) (window_size m s)

-- How many bytes of a section's memory are the file's: those of its raw data, and of the file
-- blocks in its window as far as the file, whose end is given, has them. None are, if it has no
-- place in the file. Of raw data that the file lacks it is not known what it is.
abbrev pub stored_in_memory : MappedImage → ℕ → Section → ℕ
stored_in_memory m end s =
    if is_unstored s
    then 0
    else max (min (window_size m s) (end - raw_begin m.mapping s))
    (min (memory_length m s) (stored_size m.mapping s))

-- ---- what holds an address

-- the first section whose window holds an address, or else the first whose memory does; the file's
-- front, if it is mapped, comes after all sections
abbrev pub holder : MappedImage → ℕ → Option Section
holder m rva =
    option_or (find (λ s. is_among (window_size m s) rva s) m.sections)
    (find (λ s. is_among (memory_length m s) rva s) m.sections)

abbrev pub holder_index : MappedImage → ℕ → Option ℕ
holder_index m rva =
    option_or (position (λ s. is_among (window_size m s) rva s) m.sections)
    (position (λ s. is_among (memory_length m s) rva s) m.sections)

-- ---- `size` bytes

-- how many of `size` bytes from an address on have an address of 32 bits
abbrev pub addressed : ℕ → ℕ → ℕ
addressed rva size = min size (2 ^ 32 - rva)

-- at most `size` bytes of a section's memory, from an address in it on
abbrev pub memory_of : MappedImage → List ℕ → ℕ → ℕ → Section → List ℕ × ℕ
memory_of m bytes rva size s =
    let distance = rva - s.virtual_address in
    let most = min (addressed rva size) (memory_length m s - distance) in
    let stored = min most (stored_in_memory m (length bytes) s - distance) in
    available bytes (raw_begin m.mapping s + distance) stored (most - stored)

-- what is at an address in a section's memory
abbrev pub region_in : MappedImage → List ℕ → ℕ → Section → Region
region_in m bytes rva s =
    if nat_lt (rva - s.virtual_address) (stored_in_memory m (length bytes) s)
    then region.RawData
    else region.Zeros

-- `size` bytes from an address on, by the section that holds it. The index of the file's front
-- comes after those of all sections.
abbrev pub memory_by : MappedImage → List ℕ → ℕ → ℕ → ℕ → ℕ → Option Section → Memory
memory_by m bytes outside rva size index None = unknown size outside
memory_by m bytes outside rva size index (Some s) =
    let found = memory_of m bytes rva size s in
    known found (size - (length found.0 + found.1)) index
    (if index == outside then region.Headers else region_in m bytes rva s)

-- `size` bytes from an offset on, if addresses are offsets
abbrev pub memory_in_file : List ℕ → ℕ → ℕ → ℕ → Memory
memory_in_file bytes outside rva size =
    let found = front_at bytes rva (addressed rva size) in
    known (found, 0) (size - length found) outside
    (if nat_lt rva (length bytes) then region.RawData else region.Unmapped)

-- `size` bytes from an address on, by the image that maps the addresses, if there is one
abbrev pub memory_mapped : List ℕ → ℕ → ℕ → ℕ → Option MappedImage → Memory
memory_mapped bytes outside rva size None = unknown size outside
memory_mapped bytes outside rva size (Some m) =
    if m.mapping.resolve_rva
    then memory_by m bytes outside rva size (unwrap_or (holder_index m rva) outside) (holder m rva)
    else memory_in_file bytes outside rva size

-- So many bytes from an address on, as a loader maps them; an address has 32 bits. Outside of
-- sections the index is the number of sections.
unfoldable pub memory_at : PeImage → ℕ → ℕ → Memory
memory_at i rva size =
    memory_mapped i.bytes.now i.section_count rva size
    (if nat_lt rva (2 ^ 32) then mapped_image i else None)

-- Where an address has an offset inside the file, the byte there is what is in memory, but in
-- uninitialized data, which has no place in the file.
abbrev pub SeesFile : PeImage → Type 0
SeesFile i =
    (rva offset : ℕ) → image_map i rva ≡ Some offset → offset < length i.bytes.now
    → ¬ IsSomeAnd (option_and_then (λ m. holder m rva) (mapped_image i))
    (λ s. IsTrue (is_unstored s))
    → let seen = memory_at i rva 1 in
    (seen.bytes ≡ slice_range i.bytes.now offset (offset + 1)) × (seen.missing ≡ 0)
