-- The map from addresses in memory to file offsets.
use Rattle.std.specs.Prelude.{IsTrue, ℕ, ◌+◌, ◌-◌, ◌==◌, ◌≡◌, ◌<◌, ◌≤◌, min, Bool, ◌&&◌, nat_le}
use Rattle.std.specs.Prelude.{nat_lt, if◌then◌else◌, false, true, List, Option, Some, None, find}
use Rattle.std.specs.Prelude.{slice_get, option_map}
use Rattle.std.specs.Int.{is_power_of_two}
use Rattle.goblin_base.specs.declared.error.CauseOf.TheVariants.{Message}
use Rattle.goblin_base.specs.declared.error.ErrorOf.{ErrorOf}
use Rattle.goblin_base.specs.declared.error.ErrorOf.TheVariants.{Malformed}
use Rattle.goblin_base.specs.{declared.mapped.MappedEnd.MappedEnd, Parts.end_or_none, Parts.no_end}
use Rattle.goblin_pe_sect.specs.declared.address_map.run.Place.{Place}
use Rattle.goblin_pe_sect.specs.declared.options.Mapping.{Mapping}
use Rattle.goblin_pe_sect.specs.declared.options.RawPointerRule.{RawPointerRule}
use Rattle.goblin_pe_sect.specs.{declared.options.View.View, SectionTable.Section}
use Rattle.goblin_pe_sect.specs.declared.options.RawPointerRule.TheVariants.{AsStored, RoundedTo512}
use Rattle.goblin_pe_sect.specs.declared.options.View.TheVariants.{LoadedSections, Loader, Sections}
use Rattle.goblin_pe_sect.specs.Multiples.{greatest_multiple, least_multiple}

-- PE Format leaves the mapping of addresses to loaders. The windows defined here are goblin's,
-- except in a loader's view of an alignment below 512. The rule that rounds raw pointers is that of
-- the Windows loader for images whose section alignment is 4,096 or more.

-- the windows are a loader's
abbrev pub is_loaders : View → Bool
is_loaders Sections = false
is_loaders LoadedSections = true
is_loaders Loader = true

-- How many bytes raw data has in whole file blocks at this alignment: from the raw pointer rounded
-- down to 512 to the end of the raw data rounded up to the alignment; or, in a loader's view of an
-- alignment below 512, the raw size rounded up to the alignment.
abbrev pub blocks_size : View → ℕ → ℕ → ℕ → ℕ
blocks_size view alignment pointer size =
    if is_loaders view && nat_lt alignment 512
    then least_multiple alignment size
    else least_multiple alignment (pointer + size) - greatest_multiple 512 pointer

-- How many bytes of a section are read from the file at this file alignment. There are none if it
-- has no raw data. Otherwise they are those of its file blocks; but there are at most as many as
-- the raw size in whole pages, and at most as many as the virtual size in whole pages, if that is
-- not 0.
unfoldable pub read_size : View → Section → ℕ → ℕ
read_size view s alignment =
    let raw = s.size_of_raw_data in
    let stored = min (blocks_size view alignment s.pointer_to_raw_data raw)
    (least_multiple 4096 raw) in
    if raw == 0
    then 0
    else (if s.virtual_size == 0
    then stored
    else min stored (least_multiple 4096 s.virtual_size))

-- the first address after a section's window; the window begins at the section's address
abbrev pub window_end : View → Section → ℕ → ℕ
window_end view s alignment = s.virtual_address + read_size view s alignment

-- the start and the end of a section's window; there is no window if the alignment is not a power
-- of two
abbrev pub window_of : View → Section → ℕ → Option (ℕ × ℕ)
window_of view s alignment =
    if is_power_of_two alignment
    then Some (s.virtual_address, window_end view s alignment)
    else None

-- the window of a section holds this address
abbrev pub is_in_window : View → ℕ → ℕ → Section → Bool
is_in_window view alignment rva s =
    nat_le s.virtual_address rva && nat_lt rva (window_end view s alignment)

-- the file offset at which raw data with this raw pointer begins, by a rule: the pointer as stored,
-- or the greatest multiple of 512 that is at most the pointer
abbrev pub ruled : RawPointerRule → ℕ → ℕ
ruled AsStored pointer = pointer
ruled RoundedTo512 pointer = greatest_multiple 512 pointer

-- the file offset at which a section's raw data begins, by the rule of the mapping
abbrev pub raw_begin : Mapping → Section → ℕ
raw_begin mapping s = ruled mapping.raw_pointer_rule s.pointer_to_raw_data

-- the file offset of an address in a section's window: it is as far from the start of the raw data
-- as the address is from the section's address
abbrev pub offset_in : Mapping → Section → ℕ → ℕ
offset_in mapping s rva = raw_begin mapping s + (rva - s.virtual_address)

-- The file offset of an address, by the first section whose window holds it. If addresses are not
-- mapped, the offset is the address itself. Otherwise no address has one if the alignment is not a
-- power of two.
unfoldable pub file_offset : Mapping → List Section → ℕ → ℕ → Option ℕ
file_offset mapping sections alignment rva =
    if mapping.resolve_rva
    then (if is_power_of_two alignment
    then option_map (λ s. offset_in mapping s rva)
    (find (is_in_window mapping.view alignment rva) sections)
    else None)
    else Some rva

-- the first section whose window holds the address; there is none if the alignment is not a power
-- of two
abbrev pub section_at : View → ℕ → ℕ → List Section → Option Section
section_at view alignment rva sections =
    if is_power_of_two alignment then find (is_in_window view alignment rva) sections else None

-- ---- where the bytes at an address end

-- where a read at an address ends: in a loader's view, where the window does; in goblin's view, a
-- read goes on to the end of the file
abbrev pub ends_in : View → Option MappedEnd → Option MappedEnd
ends_in Sections end = None
ends_in LoadedSections end = end
ends_in Loader end = end

-- the same of all addresses
abbrev pub all_ends_in : View → (ℕ → Option MappedEnd) → ℕ → Option MappedEnd
all_ends_in Sections end_of = λ rva. None
all_ends_in LoadedSections end_of = end_of
all_ends_in Loader end_of = end_of

-- how many bytes a section has in memory, in whole pages: as the virtual size says, or the raw size
-- if that is 0
abbrev pub pages_size : Section → ℕ
pages_size s =
    least_multiple 4096 (if s.virtual_size == 0 then s.size_of_raw_data else s.virtual_size)

-- Where the bytes that a section's window maps end in the file, and the zeros that follow them in
-- memory, up to the end of the section's last page. With an alignment below 512 there is no end:
-- Windows maps such an image as one flat file, in which the file's next bytes follow a section.
abbrev pub mapped_end : Mapping → ℕ → Section → MappedEnd
mapped_end mapping alignment s =
    if nat_lt alignment 512
    then no_end
    else record {
      last = raw_begin mapping s + read_size mapping.view s alignment - 1;
      zeros = pages_size s - read_size mapping.view s alignment;
    }

-- that of the first section whose window holds the address; there is none if addresses are not
-- mapped
unfoldable pub window_bytes_end : Mapping → List Section → ℕ → ℕ → Option MappedEnd
window_bytes_end mapping sections alignment rva =
    if mapping.resolve_rva
    then option_map (mapped_end mapping alignment) (section_at mapping.view alignment rva sections)
    else None

-- where a read at an address ends, if it ends before the file does
abbrev pub file_end : Mapping → List Section → ℕ → ℕ → Option MappedEnd
file_end mapping sections alignment rva =
    ends_in mapping.view (window_bytes_end mapping sections alignment rva)

-- an offset, and where a read there ends
abbrev pub place_by : (ℕ → Option ℕ) → (ℕ → Option MappedEnd) → ℕ → Option Place
place_by offset_of end_of rva =
    option_map (λ p. record { offset = p; end = end_or_none (end_of rva) }) (offset_of rva)

-- the place of an address in the file
abbrev pub file_place : Mapping → List Section → ℕ → ℕ → Option Place
file_place mapping sections alignment =
    place_by (file_offset mapping sections alignment) (file_end mapping sections alignment)

-- ---- what holds of the file offset of an address

-- the section's window holds the address
abbrev pub InWindow : View → ℕ → ℕ → Section → Type 0
InWindow view alignment rva s = (s.virtual_address ≤ rva) × (rva < window_end view s alignment)

-- the window of the section at this index holds the address, and no earlier section's window does
pub record IsFirstWindow (view : View) (sections : List Section)
    (alignment rva index : ℕ) : Type 0 where
  pub section : Section
  pub is : slice_get sections index ≡ Some section
  pub holds : InWindow view alignment rva section
  pub least : (k : ℕ) (s : Section) → k < index → slice_get sections k ≡ Some s
      → ¬ InWindow view alignment rva s

-- Different addresses that one section maps have different offsets.
abbrev pub OffsetsApart : Mapping → List Section → ℕ → Type 0
OffsetsApart mapping sections alignment =
    (first second index : ℕ) → IsTrue (is_power_of_two alignment)
    → IsFirstWindow mapping.view sections alignment first index
    → IsFirstWindow mapping.view sections alignment second index
    → file_offset mapping sections alignment first ≡ file_offset mapping sections alignment second
    → first ≡ second

-- the offset is the one by the section with the least index among those whose windows hold the
-- address
abbrev pub MapsTo : Mapping → List Section → ℕ → ℕ → ℕ → Type 0
MapsTo mapping sections alignment rva offset =
    (index : ℕ) × (first : IsFirstWindow mapping.view sections alignment rva index)
    × (offset ≡ offset_in mapping first.section rva)

-- no section's window holds the address
abbrev pub MapsNowhere : View → List Section → ℕ → ℕ → Type 0
MapsNowhere view sections alignment rva =
    (k : ℕ) (s : Section) → slice_get sections k ≡ Some s → ¬ InWindow view alignment rva s

-- the cause is this message
abbrev pub IsMessage : List ℕ → ErrorOf → Type 0
IsMessage message (Malformed (Message text)) = text.now ≡ message
IsMessage message e = ⊥
