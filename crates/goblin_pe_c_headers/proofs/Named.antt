-- The rows of sections that were read have their names from the string table.
use Rattle.std.proofs.Common.{◌≡◌, ◌∙◌, ℕ, zero, suc, ◌+◌, ◌*◌, ◌/◌, ◌<◌, ◌≤◌, ◌==◌, Bool, true, false, not, List, [], ◌∷◌, length, map, refl, ap, arith, subst, sym, Option, None, Some, option_map, slice_get, slice_range, take, min, IsSomeAnd, ne_eqb, length-take, take-take}
use Rattle.std.specs.{List.prefix_len, List.range_with_len, Str.is_utf8}
use Rattle.std.proofs.{lemmas.List.take_all, lemmas.Simd.map-map, lemmas.Option.cond_some}
use Rattle.goblin_base.specs.{declared.endian.Endian.TheVariants.Little, Record.record_at}
use Rattle.goblin_base.specs.{Answers.all_at, Answers.all_of, Tables.records_in}
use Rattle.goblin_base.specs.Bytes.{before_nul, slice_at, text_at, text_of}
use Rattle.goblin_base.proofs.RecordItems.{length-records_in}
use Rattle.goblin_base.proofs.Steps.{mapped, same_value, step}
use Rattle.goblin_pe_sect.specs.{Options.is_strict, SectionName.name_value}
use Rattle.goblin_pe_sect.specs.declared.section_table.records.SectionRecords.{SectionRecords}
use Rattle.goblin_pe_sect.specs.SectionReadings.{named_section_at, text_in_table}
use Rattle.goblin_pe_sect.specs.SectionTable.{Section, recorded_sections, section_record, sections_in, unnamed}
use Rattle.goblin_pe_head.specs.{CoffHeader.symbols_end, added.HeaderParts.sections_there}
use Rattle.goblin_pe_head.specs.TeHeader.{section_adjusted, section_moved}
use Rattle.goblin_pe_c_headers.specs.{Images.PeImage, Places.headers_there}
use Rattle.goblin_pe_c_headers.specs.{Names.cut_name, Options.header_options, Options.longest_of}
use Rattle.goblin_pe_c_headers.specs.Sections.{RowsHold, SectionRow, displacement_of, long_name, real_name_in, row_of, section_rows}
use Rattle.goblin_pe_c_headers.proofs.GivenOnward.{record_inside}
use Rattle.goblin_pe_c_headers.proofs.PlacedSections.{placed, value}

-- the section of a header, by its bytes
pub section_there : (records : SectionRecords) (headers : List ℕ) (i : ℕ) (s : Section) → recorded_sections records ≡ sections_in headers → i < length headers / 40 → slice_get (recorded_sections records) i ≡ Some s
    → s ≡ section_record Little (slice_range headers (40 * i) (40 * i + 40))
section_there records headers i s are within is =
    let own = section_record Little (slice_range headers (40 * i) (40 * i + 40)) in
    same_value s own (sym is ∙ ap (λ (xs : List Section). slice_get xs i) are ∙ record_inside 40 (section_record Little) headers i within)

pub section_inside : (records : SectionRecords) (headers : List ℕ) (i : ℕ) → recorded_sections records ≡ sections_in headers → i < length headers / 40 → i < length (recorded_sections records)
section_inside records headers i are within = omega (arith, within, ap (λ (xs : List Section). length xs) are ∙ length-records_in 40 (section_record Little) headers)

-- ---- the name in a header

front-first : (p : ℕ → Bool) (n x : ℕ) (xs : List ℕ) (b : Bool) → p x ≡ b → take (prefix_len p (take n xs)) (take n xs) ≡ take n (take (prefix_len p xs) xs)
    → take (prefix_len p (take (suc n) (x ∷ xs))) (take (suc n) (x ∷ xs)) ≡ take (suc n) (take (prefix_len p (x ∷ xs)) (x ∷ xs))
front-first p n x xs true is rest =
    let own : 1 + prefix_len p (take n xs) ≡ suc (prefix_len p (take n xs)) = omega arith in
    let whole : 1 + prefix_len p xs ≡ suc (prefix_len p xs) = omega arith in
    rw (is, own, whole) (ap (λ (ys : List ℕ). x ∷ ys) rest)
front-first p n x xs false is rest = rw is refl

pub front-passed : (p : ℕ → Bool) (n : ℕ) (xs : List ℕ) → take (prefix_len p (take n xs)) (take n xs) ≡ take n (take (prefix_len p xs) xs)
front-passed p zero xs = refl
front-passed p (suc n) [] = refl
front-passed p (suc n) (x ∷ xs) = front-first p n x xs (p x) refl (front-passed p n xs)

name-is : (header name : List ℕ) → length header ≡ 40 → text_at header 0 ≡ Some name → name ≡ before_nul header
name-is header name size is =
    let here : text_at header 0 ≡ text_of (before_nul header) = rw size refl in
    sym ((cond_some (is_utf8 (before_nul header)) (before_nul header) name (sym here ∙ is)).1)

-- a text of fewer than eight bytes is a stored name
pub name_shorter : (header name : List ℕ) → length header ≡ 40 → text_at header 0 ≡ Some name → length name < 8 → name ≡ before_nul (take 8 header)
name_shorter header name size is short =
    let own = name-is header name size is in
    sym (take_all 8 name (omega (arith, short))) ∙ ap (λ (xs : List ℕ). take 8 xs) own ∙ sym (front-passed (λ b. not (b == 0)) 8 header)

-- and one of more is a text whose front is
pub name_longer : (header name : List ℕ) → length header ≡ 40 → text_at header 0 ≡ Some name → 8 ≤ length name → take 8 header ≡ before_nul (take 8 header)
name_longer header name size is long =
    let k = prefix_len (λ b. not (b == 0)) header in
    let count : length name ≡ min k (length header) = ap (λ (xs : List ℕ). length xs) (name-is header name size is) ∙ length-take k header in
    sym (take-take 8 k header (omega (arith, count, long))) ∙ sym (front-passed (λ b. not (b == 0)) 8 header)

-- ---- the names of sections that were read

named-made : (strict : Bool) (table : ℕ) (bytes : List ℕ) (s : Section) (value : Option ℕ) → name_value strict s.name ≡ Some value → real_name_in strict None bytes table s.name ≡ (text_in_table table value).value bytes
unfolding real_name_in
named-made strict table bytes s value e = rw e refl

-- a section with its name from the string table
abbrev named_in : Bool → List ℕ → ℕ → Section → Section
named_in strict bytes table s = record s { real_name = real_name_in strict None bytes table s.name }

-- a section that was read has its name
pub section-named : (strict : Bool) (table : ℕ) (bytes : List ℕ) (p : ℕ) (s : Section) → (named_section_at strict table p).value bytes ≡ Some s → named_in strict bytes table s ≡ s
unfolding named_section_at
section-named strict table bytes p s h =
    let first = step (record_at 40 (section_record Little) bytes p) _ s h in
    let second = step (name_value strict first.value.name) _ s first.then in
    let made : Section = record first.value { real_name = (text_in_table table second.value).value bytes } in
    let named : named_in strict bytes table made ≡ made = ap (λ (name : Option (List ℕ)). record first.value { real_name = name }) (named-made strict table bytes first.value second.value second.is) in
    subst (λ (x : Section). named_in strict bytes table x ≡ x) (same_value made s second.then) named

-- what two functions make alike of each value they make alike of all
pub all-same : {A : Type 0} (f g : A → A) (value : ℕ → Option A) (len start : ℕ) (xs : List A) → ((i : ℕ) (a : A) → value i ≡ Some a → f a ≡ g a) → all_of (map value (range_with_len start len)) ≡ Some xs → map f xs ≡ map g xs
all-same {A} f g value zero start xs same h =
    let none : [] ≡ xs = cc in
    rw (sym none) refl
all-same {A} f g value (suc len) start xs same h =
    let first = step (value start) _ xs h in
    let rest = step (all_of (map value (range_with_len (start + 1) len))) _ xs first.then in
    let made : map f (first.value ∷ rest.value) ≡ map g (first.value ∷ rest.value) = rw (same start first.value first.is, all-same f g value len (start + 1) rest.value same rest.is) refl in
    subst (λ (ys : List A). map f ys ≡ map g ys) (same_value (first.value ∷ rest.value) xs rest.then) made

-- ---- the sections of the rows

-- the section of a row, by its header
abbrev row_section : PeImage → Section → Section
row_section n s =
    let moved = section_moved (displacement_of n) s in record moved { real_name = option_map (λ t. (cut_name (longest_of n.options) t).0) (long_name n moved.name) }

rows-of : (n : PeImage) (headers : List ℕ) (len start : ℕ)
    → map (λ (r : SectionRow). r.section) (map (λ (i : ℕ). row_of n i (slice_range headers (40 * i) (40 * i + 40))) (range_with_len start len))
    ≡ map (row_section n) (map (λ (i : ℕ). section_record Little (slice_range headers (40 * i) (40 * i + 40))) (range_with_len start len))
rows-of n headers zero start = refl
rows-of n headers (suc len) start = rw (rows-of n headers len (start + 1)) refl

rows-sections : (n : PeImage) (headers : List ℕ) → map (λ (r : SectionRow). r.section) (section_rows n headers) ≡ map (row_section n) (sections_in headers)
unfolding records_in
rows-sections n headers = rows-of n headers (length headers / 40) 0

-- what moves a section leaves its name
moved-named : (strict : Bool) (bytes : List ℕ) (table : ℕ) (d : Option ℕ) (s : Section) → named_in strict bytes table (section_moved d (unnamed s)) ≡ section_moved d (named_in strict bytes table s)
unfolding section_adjusted
moved-named strict bytes table None s = refl
moved-named strict bytes table (Some d) s = refl

-- without a limit no name is cut
uncut : (s : Section) (name : Option (List ℕ)) → record s { real_name = option_map (λ t. t) name } ≡ record s { real_name = name }
uncut s None = refl
uncut s (Some name) = refl

-- the headers of sections that are there
headers-there : (bytes : List ℕ) (count p : ℕ) (xs : List Section) → (sections_there count p).value bytes ≡ Some xs → IsSomeAnd ((headers_there count p).value bytes) (λ headers. sections_in headers ≡ xs)
unfolding records_in
headers-there bytes zero p xs read = same_value [] xs read
headers-there bytes (suc n) p xs read =
    let some : (suc n == 0) ≡ false = ne_eqb (suc n) 0 (λ e. omega (arith, e)) in
    let records = mapped (slice_at bytes p (40 * suc n)) sections_in xs (sym (rw some refl) ∙ read) in
    rw (some, records.is) records.made

some-weaker : {A : Type 0} (v : Option A) (P Q : A → Type 0) → ((a : A) → P a → Q a) → IsSomeAnd v P → IsSomeAnd v Q
some-weaker None P Q then h = absurd h
some-weaker (Some a) P Q then h = then a h

-- the sections that are read by an image's record
abbrev pub read_sections : Bool → List ℕ → PeImage → Option (List Section)
read_sections strict bytes image = all_at (value strict (symbols_end image.coff_header) bytes image.section_table) image.section_count

-- The rows of an image hold the sections that are read with their whole names, and moved.
pub rows_hold : (image : PeImage) (all : List Section) (d : Option ℕ) → longest_of image.options ≡ None → displacement_of image ≡ d
    → read_sections (is_strict (header_options image.options).parse_mode) image.bytes.now image ≡ Some all
    → RowsHold image (map (section_moved d) all)
rows_hold image all d whole moved read =
    let strict = is_strict (header_options image.options).parse_mode in
    let strings = symbols_end image.coff_header in
    let bytes = image.bytes.now in
    let there = headers-there bytes image.section_count image.section_table (map unnamed all) (placed strict strings bytes image.section_table image.section_count all read image.section_count refl) in
    some-weaker ((headers_there image.section_count image.section_table).value bytes) (λ headers. sections_in headers ≡ map unnamed all)
    (λ headers. map (λ (r : SectionRow). r.section) (section_rows image headers) ≡ map (section_moved d) all)
    (λ headers are.
    rows-sections image headers ∙ ap (map (row_section image)) are ∙ map-map (row_section image) unnamed all
    ∙ all-same (λ (s : Section). row_section image (unnamed s)) (section_moved d) (value strict strings bytes image.section_table) image.section_count 0 all
    (λ i s is.
    rw (whole, moved) (uncut (section_moved d (unnamed s)) (real_name_in strict None bytes strings (section_moved d (unnamed s)).name) ∙ moved-named strict bytes strings d s ∙ ap (section_moved d) (section-named strict strings bytes (image.section_table + 40 * i) s is)))
    read)
    there

-- sections that did not move
pub unmoved : (xs : List Section) → map (section_moved None) xs ≡ xs
unmoved [] = refl
unmoved (s ∷ xs) = ap (λ (ys : List Section). s ∷ ys) (unmoved xs)
