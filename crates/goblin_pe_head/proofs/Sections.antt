-- Sections one after the other: where one is missing, and what is answered of those that are moved.
use Rattle.std.proofs.Common.{◌≡◌, ℕ, ◌+◌, ◌*◌, ◌/◌, ◌-◌, ◌<◌, ◌≤◌, Bool, true, false, List, length, ◌∙◌, arith, ap, map, refl, inr, sym, Result, Ok, Err, None, Option, Some, nat_le, option_map}
use Rattle.std.specs.List.{range_with_len}
use Rattle.std.proofs.{lemmas.Simd.map-map, lemmas.Bool.lt-leb, Math.Bool.and-false}
use Rattle.goblin_base.specs.declared.error.CauseOf.TheVariants.{StrippedSize}
use Rattle.goblin_base.specs.{declared.error.ErrorOf.ErrorOf, Answers.all_at, Answers.all_of}
use Rattle.goblin_base.specs.Reading.{Reading, Reads, ReadsOrMemory}
use Rattle.goblin_base.proofs.Steps.{all_at-none, all_of-map, unmapped}
use Rattle.readings.specs.Reads.{◌>>=◌, each, mapped, needs}
use Rattle.goblin_pe_sect.specs.SectionReadings.{named_section_at}
use Rattle.goblin_pe_sect.specs.SectionTable.{Section, unnamed}
use Rattle.goblin_pe_head.specs.TeHeader.{TeHeader, displacement, section_adjusted, section_moved, moved_section, moved_sections, te_sections_at}
use Rattle.goblin_pe_head.specs.CoffReadings.{sections_at, with_room}

-- ---- a section that is moved

module _ (strict : Bool) (table : ℕ) (bytes : List ℕ) (p : ℕ) where
  pub moved-value : (move : Option ℕ) (s : Section)
      → (named_section_at strict table p).value bytes ≡ Some s
      → (moved_section move strict table p).value bytes ≡ Some (section_moved move s)
  moved-value None s is = is
  moved-value (Some d) s is = ap (option_map (section_adjusted d)) is

  pub moved-none : (move : Option ℕ) → (named_section_at strict table p).value bytes ≡ None
      → (moved_section move strict table p).value bytes ≡ None
  moved-none None none = none
  moved-none (Some d) none = ap (option_map (section_adjusted d)) none

  pub moved-cause : (move : Option ℕ) (e : ErrorOf)
      → (named_section_at strict table p).IsCause bytes e
      → (moved_section move strict table p).IsCause bytes e
  moved-cause None e cause = cause
  moved-cause (Some d) e cause = cause

  -- where a record isn't all there, its section isn't
  named_section_at-none : length bytes < p + 40 → (named_section_at strict table p).value bytes ≡ None
  unfolding named_section_at
  named_section_at-none short =
      let past : nat_le (p + 40) (length bytes) ≡ false = lt-leb _ _ short in
      rw (past, and-false) refl

-- ---- a file that is too short for n sections has no n sections anywhere

moved_sections-too_short : (move : Option ℕ) (strict : Bool) (table n : ℕ) (bytes : List ℕ) (p : ℕ)
    → length bytes / 40 < n → (moved_sections move strict table n p).value bytes ≡ None
moved_sections-too_short move strict table n bytes p short =
    let last = p + 40 * (n - 1) in
    all_at-none (λ i. (moved_section move strict table (p + 40 * i)).value bytes) n (n - 1)
    (omega (arith, short))
    (moved-none strict table bytes last move
    (named_section_at-none strict table bytes last (omega (arith, short))))

pub sections_at-too_short : (strict : Bool) (table n : ℕ) (bytes : List ℕ) (p : ℕ)
    → length bytes / 40 < n → (sections_at strict table n p).value bytes ≡ None
unfolding sections_at
sections_at-too_short strict table n bytes p short =
    moved_sections-too_short None strict table n bytes p short

stripped-too_short : (shift : Option ℕ) (size n : ℕ) (bytes : List ℕ) (p : ℕ)
    → length bytes / 40 < n
    → (needs shift (StrippedSize size) >>= λ d. moved_sections (Some d) true 0 n p).value bytes
    ≡ None
stripped-too_short None size n bytes p short = refl
stripped-too_short (Some d) size n bytes p short =
    moved_sections-too_short (Some d) true 0 n bytes p short

pub te_sections_at-too_short : (h : TeHeader) (bytes : List ℕ) (p : ℕ)
    → length bytes / 40 < h.number_of_sections → (te_sections_at h p).value bytes ≡ None
unfolding te_sections_at
te_sections_at-too_short h bytes p short =
    stripped-too_short (displacement h) h.stripped_size h.number_of_sections bytes p short

-- ---- what is answered

-- where there is room for n, it is answered as without the test of the room
pub in_room : {X A : Type 0} (view : X → A) (r : Result X ErrorOf) (n : ℕ) (reading : Reading A)
    (bytes : List ℕ) → n ≤ length bytes / 40 → ReadsOrMemory view r reading bytes
    → ReadsOrMemory view r (with_room n reading) bytes
in_room view (Ok x) n reading bytes room made = made
in_room view (Err e) n reading bytes room made = λ no. ((made no).0, inr (room, (made no).1))

-- the same of what is made of them, where no memory is taken
pub in_room_made : {X A B : Type 0} (view : X → B) (r : Result X ErrorOf) (n : ℕ) (f : A → B)
    (reading : Reading A) (bytes : List ℕ) → n ≤ length bytes / 40
    → Reads view r (mapped f reading) bytes → Reads view r (mapped f (with_room n reading)) bytes
in_room_made view (Ok x) n f reading bytes room made = made
in_room_made view (Err e) n f reading bytes room made = (made.0, inr (room, made.1))

-- ---- records of sections that are moved

all_at-map : {A B : Type 0} (f : A → B) (value : ℕ → Option A) (n : ℕ)
    → all_at (λ i. option_map f (value i)) n ≡ option_map (map f) (all_at value n)
all_at-map f value n =
    ap all_of (sym (map-map (option_map f) value (range_with_len 0 n)))
    ∙ all_of-map f (map value (range_with_len 0 n))

-- what moves sections leaves it open whether they have names
moved-unnamed : (d : ℕ) (sections : List Section)
    → map unnamed (map (section_adjusted d) sections) ≡ map (section_adjusted d) (map unnamed sections)
unfolding section_adjusted
moved-unnamed d sections =
    map-map unnamed (section_adjusted d) sections ∙ sym (map-map (section_adjusted d) unnamed sections)

moved-unnamed_if : (d : ℕ) (sections : Option (List Section))
    → option_map (map unnamed) (option_map (map (section_adjusted d)) sections)
    ≡ option_map (map (section_adjusted d)) (option_map (map unnamed) sections)
moved-unnamed_if d None = refl
moved-unnamed_if d (Some sections) = ap (λ (xs : List Section). Some xs) (moved-unnamed d sections)

-- where something was stripped, the sections of the records are moved by that
pub records_by_displacement : {X : Type 0} (view : X → List Section) (r : Result X ErrorOf)
    (shift : Option ℕ) (size d n : ℕ) (bytes : List ℕ) (p : ℕ) → shift ≡ Some d
    → Reads view r (mapped (map unnamed) (each (λ i. named_section_at true 0 (p + 40 * i)) n)) bytes
    → Reads (λ x. map (section_moved shift) (view x)) r
    (mapped (map unnamed)
    (needs shift (StrippedSize size) >>= λ d. moved_sections (Some d) true 0 n p)) bytes
records_by_displacement view (Ok x) shift size d n bytes p is made =
    let value : ℕ → Option Section = λ (i : ℕ). (named_section_at true 0 (p + 40 * i)).value bytes in
    rw is
    (ap (option_map (map unnamed)) (all_at-map (section_adjusted d) value n)
    ∙ moved-unnamed_if d (all_at value n) ∙ ap (option_map (map (section_adjusted d))) made)
records_by_displacement view (Err e) shift size d n bytes p is made =
    let value : ℕ → Option Section = λ (i : ℕ). (named_section_at true 0 (p + 40 * i)).value bytes in
    let none = unmapped (map unnamed) (all_at value n) made.0 in
    let first = made.1 in
    let moved = all_at-map (section_adjusted d) value n ∙ ap (option_map (map (section_adjusted d))) none in
    rw is (
      ap (option_map (map unnamed)) moved,
      (
        first.0,
        first.1,
        λ k lt gone. first.2 k lt (unmapped (section_adjusted d) (value k) gone),
        ap (option_map (section_adjusted d)) first.3,
        first.4,
      ),
    )
