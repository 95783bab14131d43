-- The records of sections one after the other, whose sections have no names from the string table.
use Rattle.std.proofs.Common.{◌≡◌, ℕ, ◌+◌, ◌*◌, ◌/◌, ◌<◌, ◌≤◌, ◌∷◌, ◌++◌, [], Bool, Bor, List, length, map, sym, ap, refl, ◌∙◌, inl, inr, arith, Option, None, Some, option_map, slice_range, unwrap_or}
use Rattle.std.specs.{Slice.IsGetRangeResult, List.range_with_len}
use Rattle.std.proofs.{lemmas.Bool.cases_lt, lemmas.List.map-append}
use Rattle.std.proofs.lemmas.List.FromFn.{map-range_with_len_more}
use Rattle.goblin_base.specs.declared.endian.Endian.TheVariants.{Little}
use Rattle.goblin_base.specs.{declared.error.ErrorOf.ErrorOf, Record.record_at, Tables.records_in}
use Rattle.goblin_base.specs.Answers.{◌>>=◌, all_at}
use Rattle.goblin_base.proofs.{Footprints.same_map, Numbers.slice-of_slice}
use Rattle.goblin_base.proofs.RecordRoundTrip.{length-slice}
use Rattle.goblin_base.proofs.Records.{IsRecordOf, record_at-some}
use Rattle.goblin_base.proofs.Steps as steps
use Rattle.goblin_base.proofs.Steps.{all_at-each, all_at-more, all_at-none, same_value, step, unmapped}
use Rattle.readings.specs.Reads.{each}
use Rattle.goblin_pe_sect.specs.SectionName.{name_value}
use Rattle.goblin_pe_sect.specs.SectionReadings.{named_section_at, text_in_table}
use Rattle.goblin_pe_sect.specs.SectionTable.{Section, section_record, sections_in, unnamed}

-- ---- what is made of values one after the other

-- one more value
mapped-more : {A B : Type 0} (f : A → B) (value : ℕ → Option A) (n : ℕ) (xs : List B) (x : B)
    → option_map (map f) (all_at value n) ≡ Some xs → option_map f (value n) ≡ Some x
    → option_map (map f) (all_at value (n + 1)) ≡ Some (xs ++ x ∷ [])
mapped-more {A} {B} f value n xs x so_far next =
    let all = steps.mapped (all_at value n) (map f) xs so_far in
    let one = steps.mapped (value n) f x next in
    let more = all_at-more value n all.value one.value all.is one.is in
    rw (more) (rw (map-append f all.value (one.value ∷ []), all.made, one.made) refl)

-- ---- the sections of records

-- the section of the record at p
abbrev pub section_from : List ℕ → ℕ → Section
section_from bytes p = section_record Little (slice_range bytes p (p + 40))

-- the sections of n records from p on
abbrev pub sections_from : List ℕ → ℕ → ℕ → List Section
sections_from bytes p n = map (λ i. section_from bytes (p + 40 * i)) (range_with_len 0 n)

-- the n sections from p on, without their names from the string table, where they are read
abbrev pub unnamed_from : Bool → ℕ → List ℕ → ℕ → ℕ → Option (List Section)
unnamed_from strict table bytes p n =
    option_map (map unnamed) (all_at (λ i. (named_section_at strict table (p + 40 * i)).value bytes) n)

unnamed_record : (own : List ℕ) → unnamed (section_record Little own) ≡ section_record Little own
unnamed_record own = refl

-- the names of sections that differ in them alone are dropped
unnamed_same : (s named : Section) (name : Option (List ℕ)) → record s { real_name = name } ≡ named → unnamed named ≡ unnamed s
unnamed_same s named name e = ap unnamed (sym e)

-- a section that is read has a record that is all there, and says the section without its name
section_there : (strict : Bool) (table : ℕ) (bytes : List ℕ) (p : ℕ) (s : Section)
    → option_map unnamed ((named_section_at strict table p).value bytes) ≡ Some s
    → IsRecordOf 40 (section_record Little) bytes p s
unfolding named_section_at
section_there strict table bytes p s is =
    let whole = steps.mapped ((named_section_at strict table p).value bytes) unnamed s is in
    let text : Option ℕ → Option (List ℕ) = λ (place : Option ℕ). (text_in_table table place).value bytes in
    let first = step (record_at 40 (section_record Little) bytes p) (λ s. name_value strict s.name >>= (λ v. Some (record s { real_name = text v }))) whole.value whole.is in
    let second = step (name_value strict first.value.name) (λ v. Some (record first.value { real_name = text v })) whole.value first.then in
    let named = same_value (record first.value { real_name = text second.value }) whole.value second.then in
    let there = record_at-some 40 (section_record Little) bytes p first.value first.is in
    record {
      start = there.start;
      end = there.end;
      is = sym whole.made ∙ unnamed_same first.value whole.value (text second.value) named ∙ ap unnamed there.is ∙ unnamed_record (slice_range bytes p (p + 40));
    }

-- one more section
pub section_more : (strict : Bool) (table : ℕ) (bytes : List ℕ) (p n : ℕ) (s : Section)
    → unnamed_from strict table bytes p n ≡ Some (sections_from bytes p n)
    → option_map unnamed ((named_section_at strict table (p + 40 * n)).value bytes) ≡ Some s
    → unnamed_from strict table bytes p (n + 1) ≡ Some (sections_from bytes p (n + 1))
section_more strict table bytes p n s so_far next =
    let there = section_there strict table bytes (p + 40 * n) s next in
    let next' = next ∙ ap (λ (s : Section). Some s) there.is in
    mapped-more unnamed (λ i. (named_section_at strict table (p + 40 * i)).value bytes) n (sections_from bytes p n) (section_from bytes (p + 40 * n)) so_far next'
    ∙ ap (λ (xs : List Section). Some xs) (sym (map-range_with_len_more (λ (i : ℕ). section_from bytes (p + 40 * i)) 0 n n (omega arith)))

-- its record is in the file
pub section_end : (strict : Bool) (table : ℕ) (bytes : List ℕ) (p : ℕ) (s : Section)
    → option_map unnamed ((named_section_at strict table p).value bytes) ≡ Some s → p + 40 ≤ length bytes
section_end strict table bytes p s is = (section_there strict table bytes p s is).end

-- the sections of the bytes of n records
pub sections_of_slice : (bytes : List ℕ) (p n : ℕ) → p + 40 * n ≤ length bytes
    → sections_in (slice_range bytes p (p + 40 * n)) ≡ sections_from bytes p n
unfolding records_in
sections_of_slice bytes p n within =
    let count : length (slice_range bytes p (p + 40 * n)) / 40 ≡ n = omega (arith, length-slice bytes p (40 * n) within) in
    let own : ℕ → Section = λ (i : ℕ). section_record Little (slice_range (slice_range bytes p (p + 40 * n)) (40 * i) (40 * i + 40)) in
    ap (λ (k : ℕ). map own (range_with_len 0 k)) count
    ∙ same_map own (λ i. section_from bytes (p + 40 * i)) n 0
    (λ (j : ℕ) low high. ap (section_record Little) (slice-of_slice bytes p (40 * n) (40 * j) 40 (omega (arith, high))))

-- there are none without bytes
sections_of_none : (bytes own : List ℕ) (p : ℕ) → length own ≡ 0 → sections_in own ≡ sections_from bytes p 0
unfolding records_in
sections_of_none bytes own p none = rw none refl

-- the sections of the bytes that the file gives for n records, where all of them are there
pub sections_of_got : (bytes : List ℕ) (p end n : ℕ) (none : Bor (List ℕ)) (got : Option (Bor (List ℕ)))
    → end ≡ p + 40 * n → (0 < n → end ≤ length bytes) → length none.now ≡ 0 → IsGetRangeResult bytes p end got
    → sections_in (unwrap_or got none).now ≡ sections_from bytes p n
sections_of_got bytes p end n none (Some own) is within empty part =
    ap sections_in (part.0.2 ∙ ap (slice_range bytes p) is) ∙ sections_of_slice bytes p n (omega (arith, is, part.0.1))
sections_of_got bytes p end n none None is within empty (inl before, _) = absurd (omega (arith, is, before))
sections_of_got bytes p end n none None is within empty (inr after, _) =
    elim (cases_lt 0 n) [
      | inl some ↦ absurd (omega (arith, after, within some))
      | inr few ↦
          let zero : 0 ≡ n = omega (arith, few) in
          sections_of_none bytes none.now p empty ∙ ap (sections_from bytes p) zero
    ]

-- ---- a section that is refused

-- where the n sections before it are read, it is the first that is refused
pub unnamed_refused : (strict : Bool) (table : ℕ) (bytes : List ℕ) (p count n : ℕ) (xs : List Section) (e : ErrorOf)
    → n < count → unnamed_from strict table bytes p n ≡ Some xs
    → option_map unnamed ((named_section_at strict table (p + 40 * n)).value bytes) ≡ None
    → (named_section_at strict table (p + 40 * n)).IsCause bytes e
    → (unnamed_from strict table bytes p count ≡ None)
    × (each (λ i. named_section_at strict table (p + 40 * i)) count).IsCause bytes e
unnamed_refused strict table bytes p count n xs e below so_far refused cause =
    let value : ℕ → Option Section = λ (i : ℕ). (named_section_at strict table (p + 40 * i)).value bytes in
    let all = steps.mapped (all_at value n) (map unnamed) xs so_far in
    let none = unmapped unnamed (value n) refused in (
      ap (option_map (map unnamed)) (all_at-none value count n below none),
      (n, below, all_at-each value n all.value all.is, none, cause),
    )
