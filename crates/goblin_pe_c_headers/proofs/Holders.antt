-- What holds an address, found in one pass.
use Rattle.std.proofs.Common.{◌≡◌, ℕ, ◌+◌, ◌<◌, ◌≤◌, Bool, true, false, List, [], ◌∷◌, Option, Some, None, cond, find, length, length-append, option_map, refl, ap, sym, ◌∙◌, arith, max}
use Rattle.std.specs.{Int.is_power_of_two, List.position_from, Option.option_or}
use Rattle.std.proofs.lemmas.Bool.Decides.{nat_tests}
use Rattle.std.proofs.lemmas.Iterator.Adapters.{position_from-zero}
use Rattle.goblin_pe_sect.specs.Mapping.{pages_size, read_size}
use Rattle.goblin_pe_sect.specs.{declared.address_map.records.MappedRecords.MappedRecords, SectionTable.Section}
use Rattle.goblin_pe_sect.specs.SectionTable.{front_section, mapped_sections, recorded_sections, with_front}
use Rattle.goblin_pe_sect.proofs.Mapped.{within_pages}
use Rattle.goblin_pe_c_headers.specs.Addresses.{MappedImage}
use Rattle.goblin_pe_c_headers.specs.Memory.{holder, holder_index, is_among, maps_pages, memory_length, memory_size, window_size}

-- the first section that passes, with its index, where the list starts at index k
abbrev found : (Section → Bool) → ℕ → List Section → Option (ℕ × Section)
found test k [] = None
found test k (x ∷ xs) = cond (test x) (Some (k, x)) (found test (k + 1) xs)

first-map : {A B : Type 0} (f : A → B) (b : Bool) (x : A) (rest : Option A) → option_map f (cond b (Some x) rest) ≡ cond b (Some (f x)) (option_map f rest)
first-map f true x rest = refl
first-map f false x rest = refl

or-map : {A B : Type 0} (f : A → B) (a b : Option A) → option_map f (option_or a b) ≡ option_or (option_map f a) (option_map f b)
or-map f None b = refl
or-map f (Some x) b = refl

index-found : (test : Section → Bool) (k : ℕ) (xs : List Section) → option_map (λ both. both.0) (found test k xs) ≡ position_from test k xs
index-found test k [] = refl
index-found test k (x ∷ xs) = first-map (λ both. both.0) (test x) (k, x) (found test (k + 1) xs) ∙ ap (cond (test x) (Some k)) (index-found test (k + 1) xs)

section-found : (test : Section → Bool) (k : ℕ) (xs : List Section) → option_map (λ both. both.1) (found test k xs) ≡ find test xs
section-found test k [] = refl
section-found test k (x ∷ xs) = first-map (λ both. both.1) (test x) (k, x) (found test (k + 1) xs) ∙ ap (cond (test x) (Some x)) (section-found test (k + 1) xs)

pub length-first : (x : Section) (xs rest : List Section) → xs ≡ x ∷ rest → length xs ≡ 1 + length rest
length-first x xs rest begins = rw begins (omega arith)

-- after all section headers and the front nothing is left
pub passed : (r : MappedRecords) (rest : List Section) (k : ℕ) → length (mapped_sections r) ≡ k + length rest → length (recorded_sections r.records) < k → rest ≡ []
passed r rest k long past = by r.front rest long
  where
    by : (front : Option ℕ) (rest : List Section) → length (with_front front (recorded_sections r.records)) ≡ k + length rest → rest ≡ []
    by front [] long = refl
    by None (x ∷ rest) long = absurd (omega (arith, long, past))
    by (Some size) (x ∷ rest) long = absurd (omega (arith, long, past, length-append (recorded_sections r.records) (front_section size ∷ [])))

-- what a test of a computed size says
pub says : (size n rva : ℕ) (s : Section) (b : Bool) → b ≡ is_among n rva s → n ≡ size → is_among size rva s ≡ b
says size n rva s b told is = ap (λ k. is_among k rva s) (sym is) ∙ sym told

-- a section's window lies in its memory
pub window_within : (m : MappedImage) (s : Section) → window_size m s ≤ memory_length m s
window_within m s = by (is_power_of_two m.alignment) (maps_pages m)
  where
    by : (even pages : Bool) → cond even (read_size m.mapping.view s m.alignment) 0 ≤ cond pages (pages_size s) (max (memory_size s) (cond even (read_size m.mapping.view s m.alignment) 0))
    by even false = omega arith
    by true true = within_pages m.mapping.view s m.alignment
    by false true = omega arith

module _ (m : MappedImage) (rva : ℕ) where
  abbrev in_window : Section → Bool
  in_window s = is_among (window_size m s) rva s

  abbrev in_memory : Section → Bool
  in_memory s = is_among (memory_length m s) rva s

  -- what is found in sections that start at index k, if the memory of an earlier one may hold the address
  unfoldable pub left : ℕ → Option (ℕ × Section) → List Section → Option (ℕ × Section)
  left k first xs = option_or (found in_window k xs) (option_or first (found in_memory k xs))

  pub left-none : (k : ℕ) (first : Option (ℕ × Section)) (xs : List Section) → xs ≡ [] → left k first xs ≡ first
  unfolding left
  left-none k None xs none = rw none refl
  left-none k (Some x) xs none = rw none refl

  pub left-window : (k : ℕ) (first : Option (ℕ × Section)) (x : Section) (xs rest : List Section) → xs ≡ x ∷ rest → in_window x ≡ true → left k first xs ≡ Some (k, x)
  unfolding left
  left-window k first x xs rest begins holds = rw (begins, holds) refl

  pub left-memory : (k : ℕ) (first : Option (ℕ × Section)) (x : Section) (xs rest : List Section) → xs ≡ x ∷ rest → in_window x ≡ false → in_memory x ≡ true → left k first xs ≡ left (k + 1) (option_or first (Some (k, x))) rest
  unfolding left
  left-memory k None x xs rest begins out holds = rw (begins, out, holds) refl
  left-memory k (Some y) x xs rest begins out holds = rw (begins, out) refl

  outside : (s : Section) → in_memory s ≡ false → in_window s ≡ false
  outside s out = let within = window_within m s in grind (arith, nat_tests)

  pub left-neither : (k : ℕ) (first : Option (ℕ × Section)) (x : Section) (xs rest : List Section) → xs ≡ x ∷ rest → in_memory x ≡ false → left k first xs ≡ left (k + 1) first rest
  unfolding left
  left-neither k first x xs rest begins out = rw (begins, outside x out, out) refl

  pub held-index : (r : Option (ℕ × Section)) → r ≡ left 0 None m.sections → option_map (λ both. both.0) r ≡ holder_index m rva
  unfolding left
  held-index r is =
      ap (option_map (λ both. both.0)) is ∙ or-map (λ both. both.0) (found in_window 0 m.sections) (found in_memory 0 m.sections)
      ∙ (λ i. option_or ((index-found in_window 0 m.sections ∙ sym (position_from-zero in_window m.sections)) i) ((index-found in_memory 0 m.sections ∙ sym (position_from-zero in_memory m.sections)) i))

  pub held-section : (r : Option (ℕ × Section)) → r ≡ left 0 None m.sections → option_map (λ both. both.1) r ≡ holder m rva
  unfolding left
  held-section r is =
      ap (option_map (λ both. both.1)) is ∙ or-map (λ both. both.1) (found in_window 0 m.sections) (found in_memory 0 m.sections)
      ∙ (λ i. option_or (section-found in_window 0 m.sections i) (section-found in_memory 0 m.sections i))
