-- A table of sections maps addresses alike in any order, where no two windows meet.
use Rattle.std.proofs.Common.{◌≡◌, ℕ, suc, ◌<◌, Bool, true, false, cond, IsTrue, List, [], ◌∷◌, length, get_or, slice_get, Option, Some, None, find, refl, ap, sym, inl, inr, rules, tests, IsPermutation, option_map}
use Rattle.std.specs.{Int.is_power_of_two, List.AllPairs, List.position_or_len}
use Rattle.std.proofs.lemmas.Bool.{cases_Bool}
use Rattle.std.proofs.lemmas.List.Sorted.{Contains-permutation, IsPermutation-sym}
use Rattle.std.proofs.lemmas.Option.{get_or_from_slice_get, slice_get_read, slice_get_within}
use Rattle.goblin_pe_sect.specs.{declared.options.Mapping.Mapping, declared.options.View.View}
use Rattle.goblin_pe_sect.specs.SectionTable.{Section}
use Rattle.goblin_pe_sect.specs.Mapping.{file_offset, is_in_window, offset_in}
use Rattle.goblin_pe_sect.specs.WindowOrder.{HaveDisjointWindows, IsReordering}
use Rattle.goblin_base.proofs.Footprints.{same_if}
use Rattle.goblin_base.proofs.First.{first_is_found, found_at_first, found_passes, none_passes}
use Rattle.goblin_pe_sect.proofs.Mapped.{in_window}

-- where an element of one list is in the other
moved_to : {X : Type 0} (xs ys : List X) → IsPermutation xs ys → (i : ℕ) (x : X) → slice_get xs i ≡ Some x → (place : ℕ) × (slice_get ys place ≡ Some x)
moved_to xs ys moved i x at =
    let there = Contains-permutation xs ys x moved (i, slice_get_within xs i x at, get_or_from_slice_get xs i x x at) in
    (there.0, slice_get_read ys (length ys) there.0 x refl there.1 (sym there.2))

-- no element passes
none_found : {X : Type 0} (p : X → Bool) (xs : List X) → ((k : ℕ) (x : X) → slice_get xs k ≡ Some x → p x ≡ false) → find p xs ≡ None
none_found p [] fails = refl
none_found p (x ∷ xs) fails = rw (fails 0 x refl) (none_found p xs (λ k y at. fails (suc k) y at))

-- of two elements at most one passes
abbrev AreAlone : {X : Type 0} → (X → Bool) → List X → Type 0
AreAlone {X} p xs = (i j : ℕ) (x y : X) → i < j → slice_get xs i ≡ Some x → slice_get xs j ≡ Some y → p x ≡ true → p y ≡ true → ⊥

-- where at most one element passes, the same is found in any order
found_by : {X : Type 0} (p : X → Bool) (xs ys : List X) → IsPermutation xs ys → AreAlone p xs → (found : Option X) → find p ys ≡ found → find p xs ≡ found
found_by p xs ys moved alone None e =
    none_found p xs (λ k x at. let there = moved_to xs ys moved k x at in none_passes p ys e there.0 x there.1)
found_by {X} p xs ys moved alone (Some y) e =
    let here = moved_to ys xs (IsPermutation-sym xs ys moved) (position_or_len p ys) y (found_at_first p ys y e) in
    let passes = found_passes p ys y e in
    first_is_found p xs here.0 y here.1 passes (λ k x lt at.
    elim (cases_Bool (p x)) [
      | inl too ↦ absurd (alone k here.0 x y lt at here.1 too passes)
      | inr fails ↦ fails
    ])

-- windows that do not meet hold an address at most once
alone_in_windows : (view : View) (alignment rva : ℕ) (sections : List Section) → AllPairs (HaveDisjointWindows view alignment) sections → AreAlone (is_in_window view alignment rva) sections
alone_in_windows view alignment rva sections apart i j s t lt at_i at_j holds_s holds_t =
    let pair : HaveDisjointWindows view alignment (get_or sections i s) (get_or sections j s) = apart i j s lt (slice_get_within sections j t at_j) in
    let one : HaveDisjointWindows view alignment s t = rw (get_or_from_slice_get sections i s s at_i, get_or_from_slice_get sections j t s at_j) at pair in
    one rva (in_window view alignment rva s holds_s) (in_window view alignment rva t holds_t)

-- a table in another order maps each address alike
pub file_offset-reordered : (mapping : Mapping) (xs ys : List Section) (alignment : ℕ) → IsReordering mapping.view alignment xs ys → (rva : ℕ) → file_offset mapping xs alignment rva ≡ file_offset mapping ys alignment rva
unfolding file_offset
file_offset-reordered mapping xs ys alignment is rva =
    ap (λ (o : Option ℕ). cond mapping.resolve_rva o (Some rva)) (same_if (is_power_of_two alignment) (is_power_of_two alignment) _ _ None refl (λ even.
    let there : IsTrue (is_power_of_two alignment) = search (rules, tests) in
    ap (option_map (λ s. offset_in mapping s rva)) (found_by (is_in_window mapping.view alignment rva) xs ys is.moved (alone_in_windows mapping.view alignment rva xs (is.apart there)) _ refl)))

-- the two maps are the same
pub map-reordered : (mapping : Mapping) (xs ys : List Section) (alignment : ℕ) → IsReordering mapping.view alignment xs ys → file_offset mapping xs alignment ≡ file_offset mapping ys alignment
map-reordered mapping xs ys alignment is = λ i rva. file_offset-reordered mapping xs ys alignment is rva i
