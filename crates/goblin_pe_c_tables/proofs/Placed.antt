-- The places of a header lead back to the sections after it and to its tables.
use Rattle.std.proofs.Common.{◌≡◌, ◌∙◌, ℕ, zero, suc, ◌-◌, ◌*◌, ◌/◌, Bool, false, List, [], Option, None, Some, Result, Ok, Err, ap, arith, length, map, refl, sym, ◌==◌, option_map, unwrap_or, ne_eqb, min}
use Rattle.goblin_base.specs.{declared.error.ErrorOf.ErrorOf, Bytes.slice_at, Reading.Reads}
use Rattle.goblin_base.specs.declared.endian.Endian.TheVariants.{Little}
use Rattle.goblin_base.proofs.{Numbers.slice_at-some, RecordItems.length-records_in}
use Rattle.goblin_base.proofs.{RecordRoundTrip.length-slice, Steps.mapped, Steps.same_value}
use Rattle.goblin_pe_sect.specs.declared.section_table.records.SectionRecords.{SectionRecords}
use Rattle.goblin_pe_sect.specs.{Options.front_of, Addresses.with_longest}
use Rattle.goblin_pe_sect.specs.SectionTable.{Section, recorded_sections, section_record, sections_in, unnamed}
use Rattle.goblin_pe_sect.proofs.added.UnnamedMaps.{unnamed_map_in}
use Rattle.goblin_pe_head.specs.{CoffHeader.symbols_end, CoffReadings.sections_at}
use Rattle.goblin_pe_head.specs.declared.added.parts.HeaderParts.{HeaderParts}
use Rattle.goblin_pe_head.specs.HeaderReadings.{pe_header}
use Rattle.goblin_pe_head.specs.declared.optional_header.OptionalHeader.{OptionalHeader}
use Rattle.goblin_pe_head.specs.declared.header.coff.CoffHeader.{CoffHeader}
use Rattle.goblin_pe_head.specs.PeHeader.{PeHeader, zero_coff_header}
use Rattle.goblin_pe_c_headers.proofs.PlacedSections.{placed, whole}
use Rattle.goblin_pe.specs.Whole.{places_in, section_table_offset, sections_after, size_of_headers}
use Rattle.goblin_pe_c_headers.specs.Options.{longest_of, options_at, view_of}
use Rattle.std.specs.Option.{is_some}
use Rattle.goblin_pe_c_headers.specs.declared.image.PeImage.{PeImage}
use Rattle.goblin_pe_c_headers.specs.{declared.places.PePlaces.PePlaces, Headers.optional_record}
use Rattle.goblin_pe_c_headers.specs.Places.{number_if}
use Rattle.goblin_pe_c_tables.specs.{Places.LeadsBack, ReadImages.ImageLeadsBack}
use Rattle.goblin_pe_c_tables.specs.PartialImages.{AreOfLayout, given_count, given_or, given_sections, sections_of}
use Rattle.goblin_pe_head.specs.added.HeaderParts.{ArePartsOf, coff_part, placed_coff, sections_part, sections_there, table_after, whole_sections}
use Rattle.goblin_pe_head.proofs.added.WholeParts.{whole_placed}

-- ---- a header

-- the sections of a header that is read as a whole are those that are there
pub whole_part : (strict : Bool) (bytes : List ℕ) (h : PeHeader) (all : List Section) → (pe_header strict).value bytes ≡ Some h
    → (sections_after strict h).value bytes ≡ Some all → sections_part.value bytes ≡ Some (map unnamed all)
unfolding sections_after sections_at sections_part
whole_part strict bytes h all header read =
    rw (whole_placed strict bytes h header)
    (whole strict (symbols_end h.coff_header) bytes (section_table_offset h) h.coff_header.number_of_sections all read)

given_are : (r : Result SectionRecords ErrorOf) (bytes : List ℕ) (xs : List Section) → Reads recorded_sections r sections_part bytes → sections_part.value bytes ≡ Some xs
    → sections_of r ≡ xs
given_are (Ok records) bytes xs reads e = same_value (recorded_sections records) xs (sym reads ∙ e)
given_are (Err error) bytes xs reads e = absurd (cc (reads.0, e))

pub whole_given : (bytes : List ℕ) (parts : HeaderParts) → ArePartsOf bytes parts → AreOfLayout bytes parts
whole_given bytes parts are strict h all header read =
    given_are parts.section_records bytes (map unnamed all) are.section_records (whole_part strict bytes h all header read)

-- ---- the sections that are given

-- there are as many sections as records that are read
length-there : (bytes : List ℕ) (count p : ℕ) (xs : List Section) → (sections_there count p).value bytes ≡ Some xs → length xs ≡ count
length-there bytes zero p xs read = ap length (sym (same_value [] xs read))
length-there bytes (suc n) p xs read =
    let some : (suc n == 0) ≡ false = ne_eqb (suc n) 0 (λ e. omega (arith, e)) in
    let records = mapped (slice_at bytes p (40 * suc n)) sections_in xs (sym (rw some refl) ∙ read) in
    let own = slice_at-some bytes p (40 * suc n) records.value records.is in
    let size : length records.value / 40 ≡ suc n = omega (arith, ap length own.value, length-slice bytes p (40 * suc n) own.end) in
    ap length (sym records.made) ∙ length-records_in 40 (section_record Little) records.value ∙ size

-- they lie where the places say
led-by : (bytes : List ℕ) (found : Option (ℕ × CoffHeader)) (coff : Result CoffHeader ErrorOf) (records : Result SectionRecords ErrorOf) → placed_coff.value bytes ≡ found
    → Reads (λ h. h) coff coff_part bytes → Reads recorded_sections records sections_part bytes
    → (sections_there (min (given_or zero_coff_header coff).number_of_sections (length (sections_of records))) (unwrap_or (option_map table_after found) 0)).value bytes ≡ Some (sections_of records)
unfolding sections_part
led-by bytes found coff (Err e) at header read =
    let none : min (given_or zero_coff_header coff).number_of_sections 0 ≡ 0 = omega arith in
    rw none refl
led-by bytes None coff (Ok records) at header read = absurd (cc (at, read))
led-by bytes (Some placed) (Err e) (Ok records) at header read = absurd (cc (at, header.0))
led-by bytes (Some placed) (Ok h) (Ok records) at header read =
    let own : placed.1 ≡ h = same_value placed.1 h (sym (ap (option_map (λ (p : ℕ × CoffHeader). p.1)) at) ∙ header) in
    let table = table_after placed in
    let there : (whole_sections placed.1.number_of_sections table).value bytes ≡ Some (recorded_sections records) = sym (rw at refl) ∙ read in
    let count = length-there bytes (min placed.1.number_of_sections ((length bytes - table) / 40)) table (recorded_sections records) there in
    let own_count = ap (λ (h : CoffHeader). h.number_of_sections) own in
    let all : min h.number_of_sections (length (recorded_sections records)) ≡ min placed.1.number_of_sections ((length bytes - table) / 40) = omega (arith, own_count, count) in
    rw all there

pub given_led : (bytes : List ℕ) (parts : HeaderParts) → ArePartsOf bytes parts
    → (sections_there (given_count parts) (unwrap_or parts.section_table 0)).value bytes ≡ Some (given_sections parts)
given_led bytes parts are =
    rw are.section_table (led-by bytes (placed_coff.value bytes) parts.coff_header parts.section_records refl are.coff_header are.section_records)

pub leads_back : (h : PeHeader) → LeadsBack h
unfolding sections_after sections_at
leads_back h = record {
  tables = refl;
  sections = λ strict bytes sections read o.
      let n = h.coff_header.number_of_sections in
      let found = placed strict (symbols_end h.coff_header) bytes (section_table_offset h) n sections read n refl in
      let alignment = (places_in h.optional_header).file_alignment in
      rw found (ap (with_longest (longest_of o)) (unnamed_map_in (options_at o alignment) (view_of o) (front_of (view_of o) (size_of_headers h.optional_header)) sections alignment));
}

-- the places of an image are those of its header
abbrev numbers_of : ℕ → ℕ → Option OptionalHeader → PePlaces
numbers_of table count o = record {
  section_table = table;
  directories = (places_in o).directories;
  file_alignment = number_if (is_some o) (optional_record o).windows_fields.file_alignment;
  size_of_headers = number_if (is_some o) (optional_record o).windows_fields.size_of_headers;
  number_of_sections = count;
  magic = number_if (is_some o) (optional_record o).standard_fields.magic;
}

numbered : (table count : ℕ) (o : Option OptionalHeader) → numbers_of table count o ≡ record { section_table = table; directories = (places_in o).directories; file_alignment = (places_in o).file_alignment; size_of_headers = size_of_headers o; number_of_sections = count; magic = (places_in o).magic }
unfolding places_in
numbered table count None = refl
numbered table count (Some h) = refl

pub image_leads_back : ImageLeadsBack
unfolding ImageLeadsBack
image_leads_back image h is =
    let table = ap (λ (i : PeImage). i.section_table) is in
    let count = ap (λ (i : PeImage). i.section_count) is in
    let has = ap (λ (i : PeImage). i.has_optional_header) is in
    let fields = ap (λ (i : PeImage). i.optional_header) is in
    let directories = ap (λ (i : PeImage). i.directories) is in
    (rw (table, count, has, fields, directories) (numbered (section_table_offset h) h.coff_header.number_of_sections h.optional_header), leads_back h)
