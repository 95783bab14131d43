-- The section headers that sections are read from.
use Rattle.std.proofs.Common.{◌≡◌, ◌≢◌, ◌∙◌, ℕ, zero, suc, ◌+◌, ◌-◌, ◌*◌, ◌/◌, ◌≤◌, false, Bool, List, Option, None, Some, ap, arith, length, map, refl, subst, sym, ◌==◌, option_map, ne_eqb, min}
use Rattle.goblin_base.specs.Answers.{all_at}
use Rattle.goblin_base.proofs.{Numbers.slice_at-inside, Steps.all_at-each, Steps.all_at-zero}
use Rattle.goblin_pe_sect.specs.SectionReadings.{named_section_at}
use Rattle.goblin_pe_sect.specs.SectionTable.{Section, unnamed}
use Rattle.goblin_pe_head.specs.added.HeaderParts.{sections_there, whole_sections}
use Rattle.goblin_pe_head.proofs.added.SectionRecords.{section_end, section_more, sections_from, sections_of_slice, unnamed_from}

module _ (strict : Bool) (table : ℕ) (bytes : List ℕ) (p : ℕ) where
  abbrev pub value : ℕ → Option Section
  value i = (named_section_at strict table (p + 40 * i)).value bytes

  there : (o : Option Section) → o ≢ None → (s : Section) × (option_map unnamed o ≡ Some s)
  there None some = absurd (some refl)
  there (Some s) some = (unnamed s, refl)

  -- the sections of the first k records, where n are read
  first : (n : ℕ) (all : List Section) → all_at value n ≡ Some all → (k : ℕ) → k ≤ n
      → unnamed_from strict table bytes p k ≡ Some (sections_from bytes p k)
  first n all read zero below = ap (option_map (map unnamed)) (all_at-zero value)
  first n all read (suc k) below =
      let s = there (value k) (all_at-each value n all read k (omega (arith, below))) in
      let more = section_more strict table bytes p k s.0 (first n all read k (omega (arith, below))) s.1 in
      let one : k + 1 ≡ suc k = omega arith in
      subst (λ (m : ℕ). unnamed_from strict table bytes p m ≡ Some (sections_from bytes p m)) one more

  -- the last of them ends in the file
  within : (n : ℕ) (all : List Section) → all_at value (suc n) ≡ Some all → p + 40 * suc n ≤ length bytes
  within n all read =
      let s = there (value n) (all_at-each value (suc n) all read n (omega arith)) in
      let end = section_end strict table bytes (p + 40 * n) s.0 s.1 in
      omega (arith, end)

  -- what n sections are read from
  pub placed : (n : ℕ) (all : List Section) → all_at value n ≡ Some all → (count : ℕ) → count ≡ n
      → (sections_there count p).value bytes ≡ Some (map unnamed all)
  placed zero all read count is = rw is (sym (first zero all read zero (omega arith)) ∙ ap (option_map (map unnamed)) read)
  placed (suc n) all read count is =
      let end = within n all read in
      let slice = slice_at-inside bytes p (40 * suc n) (omega (arith, end)) end in
      let some : (suc n == 0) ≡ false = ne_eqb (suc n) 0 (λ e. omega (arith, e)) in
      rw (is, some, slice)
      (ap (λ (xs : List Section). Some xs) (sections_of_slice bytes p (suc n) end)
      ∙ sym (first (suc n) all read (suc n) (omega arith)) ∙ ap (option_map (map unnamed)) read)

  -- all of them are there
  pub whole : (n : ℕ) (all : List Section) → all_at value n ≡ Some all → (whole_sections n p).value bytes ≡ Some (map unnamed all)
  whole zero all read = placed zero all read (min 0 ((length bytes - p) / 40)) (omega arith)
  whole (suc n) all read =
      let end = within n all read in
      placed (suc n) all read (min (suc n) ((length bytes - p) / 40)) (omega (arith, end))
