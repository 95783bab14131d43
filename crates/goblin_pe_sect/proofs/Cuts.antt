-- Cutting the line of addresses at the begins and ends of windows.
use Rattle.std.proofs.Common.{◌≡◌, ℕ, ◌+◌, ◌*◌, ◌^◌, ◌<◌, ◌≤◌, List, [], ◌∷◌, ◌++◌, length, slice_get, Some, refl, sym, subst, inl, inr, arith, length-append, eqb, IsPermutation, IsSorted, nat_cmp}
use Rattle.std.specs.List.{Contains, dedup}
use Rattle.std.proofs.lemmas.List.Elements.{Contains-append_left, Contains-push, Contains-push_cases}
use Rattle.std.proofs.lemmas.List.Sorted.{Contains-permutation, IsPermutation-sym, length_permutation}
use Rattle.std.proofs.lemmas.List.Kept.{Contains-dedup_nat, Contains-from_dedup}
use Rattle.std.proofs.{lemmas.Map.Keys.IsStrictlyIncreasing-dedup, lemmas.Bool.cases_lt}
use Rattle.std.proofs.lemmas.Option.{slice_get_within}
use Rattle.goblin_pe_sect.specs.{declared.options.View.View, SectionTable.Section}
use Rattle.goblin_pe_sect.specs.Mapping.{read_size, window_end}
use Rattle.goblin_pe_sect.specs.WindowIndex.{AreNear, IsBorder, IsCut}

-- the points so far are borders, among them 0 and the begins and ends of the first n sections' windows
pub record HasCuts (view : View) (sections : List Section) (alignment : ℕ) (points : List ℕ) (n : ℕ) : Type 0 where
  pub start : Contains points 0
  pub begins : (k : ℕ) (s : Section) → k < n → slice_get sections k ≡ Some s → 0 < read_size view s alignment → Contains points s.virtual_address
  pub ends : (k : ℕ) (s : Section) → k < n → slice_get sections k ≡ Some s → 0 < read_size view s alignment → Contains points (window_end view s alignment)
  pub only : (x : ℕ) → Contains points x → IsBorder view sections alignment x
  pub near : (k : ℕ) (s : Section) → k < n → slice_get sections k ≡ Some s → read_size view s alignment ≤ 2 ^ 33
  pub few : length points ≤ 2 * n + 1

-- what holds of the first n elements and of the next
all_more : {X : Type 0} (P : X → Type 0) (xs : List X) (n : ℕ) (x : X) → slice_get xs n ≡ Some x → ((k : ℕ) (y : X) → k < n → slice_get xs k ≡ Some y → P y) → P x → (k : ℕ) (y : X) → k < n + 1 → slice_get xs k ≡ Some y → P y
all_more P xs n x here below this k y lt is =
    elim (cases_lt k n) [
      | inl less ↦ below k y less is
      | inr most ↦
          let same : k ≡ n = omega arith in
          let found : slice_get xs n ≡ Some y = subst (λ (j : ℕ). slice_get xs j ≡ Some y) same is in
          let one : x ≡ y = cc in
          subst P one this
    ]

-- what holds of numbers and of one more
only_pushed : (P : ℕ → Type 0) (points : List ℕ) (y : ℕ) → ((x : ℕ) → Contains points x → P x) → P y → (x : ℕ) → Contains (points ++ y ∷ []) x → P x
only_pushed P points y only this x has =
    elim (Contains-push_cases points y x has) [
      | inl old ↦ only x old
      | inr same ↦ subst P same this
    ]

module _ (view : View) (sections : List Section) (alignment : ℕ) (points : List ℕ) (n : ℕ) (s : Section) (h : HasCuts view sections alignment points n) (here : slice_get sections n ≡ Some s) where
  -- the points with those of the next window
  grown : (all : List ℕ) → read_size view s alignment ≤ 2 ^ 33 → ((x : ℕ) → Contains points x → Contains all x)
      → (0 < read_size view s alignment → Contains all s.virtual_address × Contains all (window_end view s alignment))
      → ((x : ℕ) → Contains all x → IsBorder view sections alignment x) → length all ≤ length points + 2 → HasCuts view sections alignment all (n + 1)
  grown all small kept new only few = record {
    start = kept 0 h.start;
    begins = all_more (λ s. 0 < read_size view s alignment → Contains all s.virtual_address) sections n s here (λ k t lt is some. kept _ (h.begins k t lt is some)) (λ some. (new some).0);
    ends = all_more (λ s. 0 < read_size view s alignment → Contains all (window_end view s alignment)) sections n s here (λ k t lt is some. kept _ (h.ends k t lt is some)) (λ some. (new some).1);
    only = only;
    near = all_more (λ s. read_size view s alignment ≤ 2 ^ 33) sections n s here h.near small;
    few = omega (arith, h.few, few);
  }

  pub cuts_empty : read_size view s alignment ≡ 0 → HasCuts view sections alignment points (n + 1)
  cuts_empty empty = grown points (omega (arith, empty)) (λ x has. has) (λ some. absurd (omega (arith, empty, some))) h.only (omega arith)

  module _ (some : 0 < read_size view s alignment) (small : read_size view s alignment ≤ 2 ^ 33) where
    end_too : (begun : List ℕ) → ((x : ℕ) → Contains begun x → IsBorder view sections alignment x) → (x : ℕ) → Contains (begun ++ window_end view s alignment ∷ []) x → IsBorder view sections alignment x
    end_too begun only = only_pushed (IsBorder view sections alignment) begun (window_end view s alignment) only (inr (n, s, here, some, inr refl))

    pub cuts_more : HasCuts view sections alignment ((points ++ s.virtual_address ∷ []) ++ window_end view s alignment ∷ []) (n + 1)
    cuts_more =
        let begun : List ℕ = points ++ s.virtual_address ∷ [] in
        grown (begun ++ window_end view s alignment ∷ []) small (λ x has. Contains-append_left begun _ x (Contains-append_left points _ x has))
        (λ _. (Contains-append_left begun _ _ (Contains-push points s.virtual_address), Contains-push begun (window_end view s alignment)))
        (end_too begun (only_pushed (IsBorder view sections alignment) points s.virtual_address h.only (inr (n, s, here, some, inl refl))))
        (omega (arith, length-append {A = ℕ}))

    -- where a window begins at one of the points, only its end is new
    pub cuts_touching : Contains points s.virtual_address → HasCuts view sections alignment (points ++ window_end view s alignment ∷ []) (n + 1)
    cuts_touching begun =
        grown (points ++ window_end view s alignment ∷ []) small (λ x has. Contains-append_left points _ x has)
        (λ _. (Contains-append_left points _ _ begun, Contains-push points (window_end view s alignment))) (end_too points h.only)
        (omega (arith, length-append {A = ℕ}))

pub all_borders : (view : View) (sections : List Section) (alignment : ℕ) (points : List ℕ) → HasCuts view sections alignment points (length sections) → (x : ℕ) → IsBorder view sections alignment x → Contains points x
all_borders view sections alignment points h x (inl is) = subst (λ (y : ℕ). Contains points y) (sym is) h.start
all_borders view sections alignment points h x (inr (k, s, at, some, inl begin)) = subst (λ (y : ℕ). Contains points y) (sym begin) (h.begins k s (slice_get_within sections k s at) at some)
all_borders view sections alignment points h x (inr (k, s, at, some, inr end)) = subst (λ (y : ℕ). Contains points y) (sym end) (h.ends k s (slice_get_within sections k s at) at some)

-- the points in order and without repeats cut the line
pub cut_from : (view : View) (sections : List Section) (alignment : ℕ) (points sorted : List ℕ) → HasCuts view sections alignment points (length sections) → IsPermutation points sorted → IsSorted nat_cmp sorted → length (dedup eqb sorted) ≤ length sorted → IsCut view sections alignment (dedup eqb sorted)
cut_from view sections alignment points sorted h moved ordered shorter = record {
  rising = IsStrictlyIncreasing-dedup sorted ordered;
  all = λ x border. Contains-dedup_nat sorted x (Contains-permutation points sorted x moved (all_borders view sections alignment points h x border));
  only = λ x has. h.only x (Contains-permutation sorted points x (IsPermutation-sym points sorted moved) (Contains-from_dedup eqb sorted x has));
  few = omega (arith, h.few, shorter, length_permutation points sorted moved);
}

pub near_from : (view : View) (sections : List Section) (alignment : ℕ) (points : List ℕ) → HasCuts view sections alignment points (length sections) → AreNear view sections alignment
near_from view sections alignment points h k s at = h.near k s (slice_get_within sections k s at) at
