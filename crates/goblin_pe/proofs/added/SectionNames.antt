-- What the records of sections tell without the names from the string table, and what it says of the sections.
use Rattle.std.proofs.Common.{◌≡◌, ℕ, ◌+◌, ◌*◌, List, Bool, length, map, refl, sym, ap, subst, ◌∙◌, arith, None, Ok, Err, Option, Result, Some, option_map}
use Rattle.std.specs.{Result.result_err, List.range_with_len}
use Rattle.std.proofs.{lemmas.List.FromFn.length-map-range_with_len, lemmas.List.length-map}
use Rattle.goblin_base.specs.{declared.error.ErrorOf.ErrorOf, Answers.all_at}
use Rattle.goblin_base.specs.Reading.{Reading, Reads}
use Rattle.goblin_base.proofs.Steps as steps
use Rattle.readings.specs.Reads.{each, mapped}
use Rattle.goblin_pe_sect.specs.declared.options.ParseOptions.{ParseOptions}
use Rattle.goblin_pe_sect.specs.{declared.options.View.View, Options.is_strict}
use Rattle.goblin_pe_sect.specs.SectionReadings.{named_section_at}
use Rattle.goblin_pe_sect.specs.Addresses.{MapOfAddresses, map_in}
use Rattle.goblin_pe_sect.specs.SectionTable.{Section, unnamed}
use Rattle.goblin_pe_sect.proofs.added.UnnamedMaps.{unnamed_map_in}
use Rattle.goblin_pe_head.specs.{declared.header.pe_header.Header.Header, CoffHeader.symbols_end}
use Rattle.goblin_pe_head.specs.CoffReadings.{sections_at, with_room}
use Rattle.goblin_pe_head.specs.{HeaderReadings.pe_header, PeHeader.PeHeader, PeHeader.header_value}
use Rattle.goblin_pe.specs.added.Layouts.{Layout, IsLayoutOf, layout_map, layout_places}
use Rattle.goblin_pe_import.proofs.ImportBound.{all_of-length}
use Rattle.goblin_pe.specs.Whole.{TablePlaces, layout, mapped_in, places_in, section_table_offset, sections_after}

-- ---- how many sections there are

as_many : (n : ℕ) (read : ℕ → Reading Section) (bytes : List ℕ) (records : List Section)
    → option_map (map unnamed) ((with_room n (each read n)).value bytes) ≡ Some records → length records ≡ n
as_many n read bytes records made =
    let value : ℕ → Option Section = λ (i : ℕ). (read i).value bytes in
    let all = steps.mapped (all_at value n) (map unnamed) records made in
    omega (arith, ap length (sym all.made), length-map all.value unnamed, all_of-length (map value (range_with_len 0 n)) all.value all.is, length-map-range_with_len value 0 n)

-- sections that were read without their names are as many as the header says
pub records_counted : (strict : Bool) (h : PeHeader) (bytes : List ℕ) (records : List Section)
    → option_map (map unnamed) ((sections_after strict h).value bytes) ≡ Some records
    → length records ≡ h.coff_header.number_of_sections
unfolding sections_after sections_at
records_counted strict h bytes records made =
    as_many h.coff_header.number_of_sections (λ i. named_section_at strict (symbols_end h.coff_header) (section_table_offset h + 40 * i)) bytes records made

-- ---- the map of addresses

-- names change no address, whether or not the file's front is mapped
pub mapped_by_names : (opts : ParseOptions) (view : View) (front : Option ℕ) (read : Option (List Section)) (records : List Section) (alignment : ℕ) (m : MapOfAddresses)
    → option_map (map unnamed) read ≡ Some records → m ≡ map_in opts (record { sections = records; view = view; front = front }) alignment
    → (sections : List Section) → read ≡ Some sections → m ≡ map_in opts (record { sections = sections; view = view; front = front }) alignment
mapped_by_names opts view front None records alignment m made by sections is = absurd cc
mapped_by_names opts view front (Some sections) records alignment m made by own is =
    let same : map unnamed sections ≡ records = steps.same_value (map unnamed sections) records made in
    let own_is : sections ≡ own = steps.same_value sections own is in
    by ∙ ap (λ (xs : List Section). map_in opts (record { sections = xs; view = view; front = front }) alignment) (sym same) ∙ unnamed_map_in opts view front sections alignment
    ∙ ap (λ (xs : List Section). map_in opts (record { sections = xs; view = view; front = front }) alignment) own_is

-- what holds of the map, the places and the bytes of a layout holds of its file's
pub of_file : (view : View) (opts : ParseOptions) (bytes : List ℕ) (header : Header) (l : Layout) → IsLayoutOf view opts bytes header l
    → (sections : List Section) → (sections_after (is_strict opts.parse_mode) (header_value header)).value bytes ≡ Some sections
    → (P : MapOfAddresses → TablePlaces → List ℕ → Type 0) → P (layout_map l) (layout_places l) l.bytes.now
    → P (map_in opts (mapped_in view (header_value header) sections) (places_in header.optional_header).file_alignment) (places_in header.optional_header) bytes
of_file view opts bytes header l is sections read P holds =
    subst (λ (m : MapOfAddresses). P m (places_in header.optional_header) bytes) (is.mapped sections read)
    (subst (λ (places : TablePlaces). P (layout_map l) places bytes) is.placed
    (subst (λ (b : List ℕ). P (layout_map l) (layout_places l) b) is.over holds))
