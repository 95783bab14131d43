-- The map from the addresses of a file to its file offsets.
use Rattle.std.specs.Prelude.{⊤, ℕ, ◌==◌, ◌≡◌, ◌<◌, Bool, false, true, if◌then◌else◌, List, Option}
use Rattle.std.specs.Prelude.{None, Some, length, option_and_then}
use Rattle.std.specs.Option.{is_some}
use Rattle.goblin_pe_sect.specs.declared.options.Mapping.{Mapping}
use Rattle.goblin_pe_sect.specs.{declared.options.ParseOptions.ParseOptions, Mapping.file_offset}
use Rattle.goblin_pe_sect.specs.Mapping.{all_ends_in, ends_in, place_by, window_bytes_end}
use Rattle.goblin_base.specs.declared.mapped.MappedEnd.{MappedEnd}
use Rattle.goblin_base.specs.Parts.{end_or_none}
use Rattle.goblin_pe_sect.specs.declared.options.{View.View, View.TheVariants.Sections}
use Rattle.goblin_pe_sect.specs.declared.address_map.records.MappedRecords.{MappedRecords}
pub use Rattle.goblin_pe_sect.specs.declared.address_map.run.Place.{Place}
use Rattle.goblin_pe_sect.specs.declared.address_map.AddressMap.{AddressMap}
use Rattle.goblin_pe_sect.specs.declared.address_map.Windows.{Windows}
use Rattle.goblin_pe_sect.specs.Options.{is_strict, mapping_by, mapping_in}
use Rattle.goblin_pe_sect.specs.SectionTable.{MappedSections, Section, mapped_of, recorded_sections}
use Rattle.goblin_pe_sect.specs.SectionTable.{with_front}
use Rattle.goblin_pe_sect.specs.WindowIndex.{HasPieces, located}
pub use Rattle.goblin_pe_sect.specs.declared.address_map.Windows.TheVariants.{Indexed, Walked}

-- How the addresses of a file are used: the file offset of an address, where a read there ends, if
-- what is mapped there has an end, and the length above which a name at an address is cut, if there
-- is a limit.
pub record Addressing : Type 0 where
  pub offset : ℕ → Option ℕ
  pub end : ℕ → Option MappedEnd
  pub longest : Option ℕ

-- the addressing with these offsets, by which names are read whole, and a read ends where the
-- file does
abbrev pub with_whole_names : (ℕ → Option ℕ) → Addressing
with_whole_names offset_of =
    record { offset = offset_of; end = λ rva. None; longest = None }

-- the place of an address
abbrev pub place_at : Addressing → ℕ → Option Place
place_at addressing = place_by addressing.offset addressing.end

-- how the addresses of a file are mapped to its offsets, and how the bytes there are read
pub record MapOfAddresses : Type 0 where
  pub opts : ParseOptions
  pub addressing : Addressing

-- the map with these options, offsets and ends, by which names are read whole
abbrev pub map_to : ParseOptions → (ℕ → Option ℕ) → (ℕ → Option MappedEnd) → MapOfAddresses
map_to opts offset_of end_of =
    record { opts = opts; addressing = record (with_whole_names offset_of) { end = end_of } }

-- the map by these options, sections and file alignment
abbrev pub map_by : ParseOptions → List Section → ℕ → MapOfAddresses
map_by opts sections file_alignment =
    map_to opts (file_offset (mapping_by opts) sections file_alignment) (λ rva. None)

-- The same offsets. But if the file's front is mapped, address 0 has none, because address 0 in a
-- table means that there is nothing.
abbrev pub without_null : Bool → (ℕ → Option ℕ) → ℕ → Option ℕ
without_null false offset_of = offset_of
without_null true offset_of = λ rva. if rva == 0 then None else offset_of rva

-- the file offset of an address in a table
abbrev pub table_offset : Mapping → MappedSections → ℕ → ℕ → Option ℕ
table_offset mapping mapped file_alignment =
    without_null (is_some mapped.front)
    (file_offset mapping (with_front mapped.front mapped.sections) file_alignment)

-- where a read at an address with one of these offsets ends
abbrev pub ends_by : Mapping → List Section → ℕ → (ℕ → Option ℕ) → ℕ → Option MappedEnd
ends_by mapping sections file_alignment offset_of rva =
    ends_in mapping.view
    (option_and_then (λ _. window_bytes_end mapping sections file_alignment rva)
    (offset_of rva))

-- where a read at an address in a table ends
abbrev pub table_end : Mapping → MappedSections → ℕ → ℕ → Option MappedEnd
table_end mapping mapped file_alignment =
    ends_by mapping (with_front mapped.front mapped.sections) file_alignment
    (table_offset mapping mapped file_alignment)

-- the map of the addresses in tables
abbrev pub map_in : ParseOptions → MappedSections → ℕ → MapOfAddresses
map_in opts mapped file_alignment =
    map_to opts (table_offset (mapping_in mapped.view opts) mapped file_alignment)
    (all_ends_in mapped.view (table_end (mapping_in mapped.view opts) mapped file_alignment))

-- the file offset of an address, by the windows of section headers or by an index
abbrev pub offset_by_windows : ParseOptions → Windows → ℕ → Option ℕ
offset_by_windows opts (Walked records view file_alignment) =
    table_offset (mapping_in view opts) (mapped_of view records) file_alignment
offset_by_windows opts (Indexed index) = located index

-- where a read at an address ends, by the same
abbrev pub end_by_windows : ParseOptions → Windows → ℕ → Option MappedEnd
end_by_windows opts (Walked records view file_alignment) =
    all_ends_in view (table_end (mapping_in view opts) (mapped_of view records) file_alignment)
end_by_windows opts (Indexed index) = λ rva. None

-- windows are found with an index, and not with a walk
abbrev pub AreIndexed : Windows → Type 0
AreIndexed (Walked records view file_alignment) = ⊥
AreIndexed (Indexed index) = ⊤

-- sections get an index if there are more of them than the 96 of the specification
abbrev pub AreMany : ℕ → Type 0
AreMany count = 96 < count

-- goblin's view, of the sections alone
abbrev pub AreGoblins : View → MappedRecords → Type 0
AreGoblins view records = (view ≡ Sections) × (records.front ≡ None)

-- if addresses are mapped by windows in goblin's view, a walk goes over few sections only
abbrev pub WalksFew : ParseOptions → Windows → Type 0
WalksFew opts (Walked records view file_alignment) =
    AreGoblins view records → HasPieces opts.resolve_rva file_alignment
    → ¬ AreMany (length (recorded_sections records.records))
WalksFew opts (Indexed index) = ⊤

-- the map has an index, whatever the number of sections
abbrev pub IsIndexed : AddressMap → Type 0
IsIndexed map = AreIndexed map.windows

-- the map by these options and windows
abbrev pub map_with : ParseOptions → Windows → MapOfAddresses
map_with opts windows = map_to opts (offset_by_windows opts windows) (end_by_windows opts windows)

-- the same map with this limit for names
abbrev pub with_longest : Option ℕ → MapOfAddresses → MapOfAddresses
with_longest longest m =
    record m { addressing = record m.addressing { longest = longest } }

-- what contracts see of a map
abbrev pub map_of : AddressMap → MapOfAddresses
map_of map = with_longest map.longest (map_with map.opts map.windows)

-- A map keeps only its options, what finds the windows, and the limit for names. So maps with the
-- same of these are the same.
abbrev pub KeepsWindowsAlone : Type 0
KeepsWindowsAlone =
    (m n : AddressMap) → m.opts ≡ n.opts → m.windows ≡ n.windows → m.longest ≡ n.longest → m ≡ n

-- the file offset of an address
abbrev pub offset_of : MapOfAddresses → ℕ → Option ℕ
offset_of m = m.addressing.offset

-- the place of an address
abbrev pub place_of : MapOfAddresses → ℕ → Option Place
place_of m = place_at m.addressing

-- the end is that of what is mapped at a place; without a place there is none
abbrev pub IsEndOf : Option Place → Option MappedEnd → Type 0
IsEndOf None end = end ≡ None
IsEndOf (Some place) end = place.end ≡ end_or_none end

-- the mode is strict: a part that can't be read is refused, and not passed over
abbrev pub reads_strictly : MapOfAddresses → Bool
reads_strictly m = is_strict m.opts.parse_mode
