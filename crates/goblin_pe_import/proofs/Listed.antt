-- What is listed of a hint and of an entry.
use Rattle.std.proofs.Common.{◌≡◌, ◌∙◌, ℕ, ◌+◌, Bool, true, false, if◌then◌else◌, nat_le, nat_lt, Option, Some, None, List, [], ◌∷◌, ◌++◌, length, refl, ap, arith, inl, inr, min, option_map}
use Rattle.std.proofs.lemmas.Bool.{cases_Bool, le-leb, leb-false, leb-true}
use Rattle.goblin_base.specs.Bytes.{slice_at}
use Rattle.goblin_base.specs.Footprints.{Range, positions, slice_footprint, stretch_footprint}
use Rattle.goblin_base.proofs.Numbers.{slice_at-inside, slice_at-some}
use Rattle.goblin_base.proofs.SlotFootprints.{stretch-none}
use Rattle.goblin_base.proofs.InMemory.{positions_clipped, text_reached}
use Rattle.goblin_base.specs.declared.mapped.MappedEnd.{MappedEnd}
use Rattle.goblin_base.specs.Parts.{in_memory, positions_before, positions_in_file, stored}
use Rattle.goblin_pe_sect.specs.{AddressReadings.name_at, Addresses.Addressing}
use Rattle.goblin_pe_import.specs.LookupReadings.{hint_name, kept_name}

-- what is reached of a hint and of the text after it
abbrev pub hint_reach : List ℕ → ℕ → List Range
hint_reach bytes p = slice_footprint bytes p 2 ++ stretch_footprint bytes (p + 2)

-- no hint, and so no text after it
pub hint-none : (bytes : List ℕ) (p : ℕ) → slice_at bytes p 2 ≡ None → hint_reach bytes p ≡ []
unfolding slice_footprint
hint-none bytes p none =
    elim (cases_Bool (nat_le (p + 2) (length bytes))) [
      | inl whole ↦
          let before = leb-true (p + 2) (length bytes) whole in
          let there = slice_at-inside bytes p 2 (omega (arith, before)) before in
          absurd (cc (none, there))
      | inr short ↦
          let past = leb-false (p + 2) (length bytes) short in
          rw (short, stretch-none bytes (p + 2) (omega (arith, past))) refl
    ]

-- a hint, and the text after it
pub hint-some : (bytes : List ℕ) (p : ℕ) (hint : List ℕ) → slice_at bytes p 2 ≡ Some hint
    → hint_reach bytes p ≡ positions p (p + 2) ++ stretch_footprint bytes (p + 2)
unfolding slice_footprint
hint-some bytes p hint is =
    let whole : nat_le (p + 2) (length bytes) ≡ true =
    le-leb (p + 2) (length bytes) (slice_at-some bytes p 2 hint is).end in
    rw whole refl

-- positions of two lists
both-in_file : (end : Option MappedEnd) (xs ys : List Range)
    → positions_in_file end (xs ++ ys) ≡ positions_in_file end xs ++ positions_in_file end ys
both-in_file None xs ys = refl
both-in_file (Some e) [] ys = refl
both-in_file (Some e) (x ∷ xs) ys =
    by (nat_lt x.0 (e.last + 1)) (both-in_file (Some e) xs ys)
  where
    by : (test : Bool)
        → positions_before (e.last + 1) (xs ++ ys)
        ≡ positions_before (e.last + 1) xs ++ positions_before (e.last + 1) ys
        → (if test then (x.0, min x.1 (e.last + 1)) ∷ positions_before (e.last + 1) (xs ++ ys)
        else positions_before (e.last + 1) (xs ++ ys))
        ≡ (if test then (x.0, min x.1 (e.last + 1)) ∷ positions_before (e.last + 1) xs
        else positions_before (e.last + 1) xs) ++ positions_before (e.last + 1) ys
    by true more = ap (λ (rest : List Range). (x.0, min x.1 (e.last + 1)) ∷ rest) more
    by false more = more

none-in_file : (end : Option MappedEnd) → positions_in_file end [] ≡ []
none-in_file None = refl
none-in_file (Some e) = refl

-- what is reached in the file of a hint and of the text after it
module _ (strict : Bool) (end : Option MappedEnd) (bytes : List ℕ) (rva p : ℕ) where
  abbrev part : List ℕ
  part = in_memory end bytes

  abbrev own : List ℕ
  own = in_memory (option_map stored end) bytes

  pub no_hint : slice_at part p 2 ≡ None
      → (kept_name strict None rva end (Some p)).reaches bytes ≡ []
  unfolding hint_name
  no_hint none =
      ap (positions_in_file end) (hint-none part p none) ∙ none-in_file end

  pub a_hint : (hint : List ℕ) → slice_at part p 2 ≡ Some hint
      → (kept_name strict None rva end (Some p)).reaches bytes
      ≡ positions p (min (p + 2) (length own)) ++ stretch_footprint own (p + 2)
  unfolding hint_name
  a_hint hint is =
      ap (positions_in_file end) (hint-some part p hint is)
      ∙ both-in_file end (positions p (p + 2)) (stretch_footprint part (p + 2))
      ∙ ap (λ (xs : List Range). xs ++ positions_in_file end (stretch_footprint part (p + 2)))
      (positions_clipped end bytes p (p + 2) (slice_at-some part p 2 hint is).end)
      ∙ ap (λ (xs : List Range). positions p (min (p + 2) (length own)) ++ xs)
      (text_reached end bytes (p + 2))

-- what is reached in the file of the text at the address of a name
pub name-reaches : (addressing : Addressing) (bytes : List ℕ) (rva p : ℕ)
    → addressing.offset rva ≡ Some p
    → (name_at (record addressing { longest = None }) rva).reaches bytes
    ≡ stretch_footprint (in_memory (option_map stored (addressing.end rva)) bytes) p
unfolding name_at
name-reaches addressing bytes rva p is = rw is (text_reached (addressing.end rva) bytes p)
