-- The first element of a list that passes a test.
use Rattle.std.proofs.Common.{◌≡◌, ℕ, suc, ◌<◌, Bool, true, false, cond, List, [], ◌∷◌, length, get_or, slice_get, Some, None, find, refl, ap, sym, ◌∙◌, inl, inr, arith}
use Rattle.std.specs.List.{position_or_len}
use Rattle.std.proofs.{lemmas.Bool.cases_lt, lemmas.List.Folds.find_at}
use Rattle.std.proofs.lemmas.Option.{slice_get-get_or, slice_get_within, get_or_from_slice_get}
use Rattle.std.proofs.lemmas.List.Sums.{position_or_len_is, fails_before_first, passes_at_first}

-- two tests that agree on the elements find the same
pub find_same : {X : Type 0} (p q : X → Bool) (xs : List X) → ((k : ℕ) (x : X) → slice_get xs k ≡ Some x → p x ≡ q x) → find p xs ≡ find q xs
find_same p q [] h = refl
find_same p q (x ∷ xs) h =
    let head : p x ≡ q x = h 0 x refl in
    let tail : find p xs ≡ find q xs = find_same p q xs (λ k y e. h (suc k) y e) in
    cc

-- the first element, or what is found among the others, by what the test says of it
pub found-first : {X : Type 0} (p : X → Bool) (x : X) (all rest : List X) (b : Bool) → b ≡ p x → all ≡ x ∷ rest
    → find p all ≡ cond b (Some x) (find p rest)
found-first p x all rest b is begins = rw (is, begins) refl

module _ {X : Type 0} (p : X → Bool) (xs : List X) where
  -- what is found is at the first place that passes
  pub found_at_first : (x : X) → find p xs ≡ Some x → slice_get xs (position_or_len p xs) ≡ Some x
  found_at_first x e = sym (find_at p xs) ∙ e

  pub found_passes : (x : X) → find p xs ≡ Some x → p x ≡ true
  found_passes x e =
      let at = found_at_first x e in
      sym (ap p (get_or_from_slice_get xs (position_or_len p xs) x x at)) ∙ passes_at_first p xs x (slice_get_within xs (position_or_len p xs) x at)

  -- nothing before the first place passes
  pub fails_before : (k : ℕ) (x : X) → k < position_or_len p xs → slice_get xs k ≡ Some x → p x ≡ false
  fails_before k x lt at = sym (ap p (get_or_from_slice_get xs k x x at)) ∙ fails_before_first p xs k x lt

  -- where nothing is found, nothing passes
  pub none_passes : find p xs ≡ None → (k : ℕ) (x : X) → slice_get xs k ≡ Some x → p x ≡ false
  none_passes none k x at =
      let i : ℕ = position_or_len p xs in
      let missing : slice_get xs i ≡ None = sym (find_at p xs) ∙ none in
      elim (cases_lt k i) [
        | inl before ↦ fails_before k x before at
        | inr past ↦
            let there : slice_get xs i ≡ Some (get_or xs i x) = slice_get-get_or xs i x (omega (arith, slice_get_within xs k x at, past)) in
            absurd (cc (missing, there))
      ]

  -- an element that passes is found where none before it does
  pub first_is_found : (i : ℕ) (x : X) → slice_get xs i ≡ Some x → p x ≡ true → ((k : ℕ) (y : X) → k < i → slice_get xs k ≡ Some y → p y ≡ false) → find p xs ≡ Some x
  first_is_found i x at passes first =
      let within : i < length xs = slice_get_within xs i x at in
      let here : p (get_or xs i x) ≡ true = ap p (get_or_from_slice_get xs i x x at) ∙ passes in
      let place : position_or_len p xs ≡ i = position_or_len_is p xs i x (omega (arith, within)) (λ k lt. first k (get_or xs k x) lt (slice_get-get_or xs k x (omega (arith, within, lt)))) (λ _. here) in
      find_at p xs ∙ ap (slice_get xs) place ∙ at
