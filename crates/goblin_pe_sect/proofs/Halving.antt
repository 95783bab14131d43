-- A search by halving among numbers that rise.
use Rattle.std.proofs.Common.{◌≡◌, ℕ, zero, suc, ◌+◌, ◌-◌, ◌*◌, ◌/◌, ◌^◌, ◌<◌, ◌≤◌, true, false, List, length, slice_index, get_or, nat_le, nat_lt, ◌==◌, ap, sym, ◌∙◌, refl, inl, inr, arith, tests, rules, pow-add, pow_pos}
use Rattle.std.specs.{List.prefix_len, List.Sorted.IsStrictlyIncreasing}
use Rattle.std.proofs.{lemmas.List.Kept.AllPairs-from_increasing, lemmas.Bool.cases_lt}
use Rattle.std.proofs.lemmas.List.Sums.{prefix_len_is, prefix_len_passes, prefix_len_stops}
use Rattle.goblin_pe_sect.specs.WindowIndex.{reached, halvings_within, halvings}

-- ---- the number of comparisons

-- a greater bound changes nothing
halvings-bound : (most other n k : ℕ) → n ≤ most → n ≤ other → halvings_within most n k ≡ halvings_within other n k
unfolding halvings_within
halvings-bound zero zero n k le le_other = refl
halvings-bound zero (suc other) n k le le_other = let none : n ≡ 0 = omega arith in rw none refl
halvings-bound (suc most) zero n k le le_other = let none : n ≡ 0 = omega arith in rw none refl
halvings-bound (suc most) (suc other) n k le le_other =
    elim (cases_lt 0 n) [
      | inl some ↦
          let above : halvings_within most (n - n / 2 - 1) (k - n / 2 - 1) ≡ halvings_within other (n - n / 2 - 1) (k - n / 2 - 1) = halvings-bound most other (n - n / 2 - 1) (k - n / 2 - 1) (omega arith) (omega arith) in
          let below : halvings_within most (n / 2) k ≡ halvings_within other (n / 2) k = halvings-bound most other (n / 2) k (omega arith) (omega arith) in
          rw (above, below) refl
      | inr none ↦ let empty : n ≡ 0 = omega arith in rw empty refl
    ]

-- one comparison, where the place that is looked for lies above the middle
halvings-up : (n k : ℕ) → n / 2 < k → 0 < n → halvings n k ≡ 1 + halvings (n - n / 2 - 1) (k - n / 2 - 1)
unfolding halvings halvings_within
halvings-up zero k above positive = absurd (omega arith)
halvings-up (suc m) k above positive =
    let some : (suc m == 0) ≡ false = search (rules, tests) in
    let test : nat_lt (suc m / 2) k ≡ true = search (rules, tests) in
    let same = halvings-bound m (suc m - suc m / 2 - 1) (suc m - suc m / 2 - 1) (k - suc m / 2 - 1) (omega arith) (omega arith) in
    rw (some, test, same) refl

-- and where it lies at or below it
halvings-down : (n k : ℕ) → k ≤ n / 2 → 0 < n → halvings n k ≡ 1 + halvings (n / 2) k
unfolding halvings halvings_within
halvings-down zero k below positive = absurd (omega arith)
halvings-down (suc m) k below positive =
    let some : (suc m == 0) ≡ false = search (rules, tests) in
    let test : nat_lt (suc m / 2) k ≡ false = search (rules, tests) in
    let same = halvings-bound m (suc m / 2) (suc m / 2) k (omega arith) (omega arith) in
    rw (some, test, same) refl

halvings-none : (k : ℕ) → halvings 0 k ≡ 0
unfolding halvings halvings_within
halvings-none k = refl

-- ---- the search

-- how far a search has come: what is below `low` begins at or before the address, what is from `high` on begins after it; the probes
-- made so far leave enough of any d with fewer than 2 ^ d numbers, and no more than enough of any d with 2 ^ d - 1 numbers or more,
-- and with those that are still to make they are the number that halving makes
pub record IsSearched (begins : List ℕ) (rva low high probes : ℕ) : Type 0 where
  pub ordered : low ≤ high
  pub within : high ≤ length begins
  pub below : (k : ℕ) → k < low → slice_index begins k ≤ rva
  pub above : (k : ℕ) → high ≤ k → k < length begins → rva < slice_index begins k
  pub most : (d : ℕ) → length begins < 2 ^ d → (probes ≤ d) × (high - low < 2 ^ (d - probes))
  pub fewest : (d : ℕ) → 2 ^ d ≤ length begins + 1 → 2 ^ (d - probes) ≤ high - low + 1
  pub counted : probes + halvings (high - low) (reached begins rva - low) ≡ halvings (length begins) (reached begins rva)

-- rising numbers keep their order at any two places
pub rising_at : (xs : List ℕ) → IsStrictlyIncreasing xs → (i j : ℕ) → i < j → j < length xs → slice_index xs i < slice_index xs j
rising_at xs up i j lt within = AllPairs-from_increasing xs up i j 0 lt within

pub rising_to : (xs : List ℕ) → IsStrictlyIncreasing xs → (i j : ℕ) → i ≤ j → j < length xs → slice_index xs i ≤ slice_index xs j
rising_to xs up i j le within =
    elim (cases_lt i j) [
      | inl lt ↦ omega (arith, rising_at xs up i j lt within)
      | inr ge ↦ let same : i ≡ j = omega arith in omega (arith, ap (λ (k : ℕ). slice_index xs k) same)
    ]

-- the place that a search looks for lies above a number that begins at or before the address
reached-above : (begins : List ℕ) (rva half : ℕ) → IsStrictlyIncreasing begins → half < length begins → slice_index begins half ≤ rva → half < reached begins rva
reached-above begins rva half up within reaches =
    elim (cases_lt half (reached begins rva)) [
      | inl less ↦ less
      | inr ge ↦
          let inside : reached begins rva < length begins = omega arith in
          let stops : nat_le (get_or begins (reached begins rva) 0) rva ≡ false = prefix_len_stops (λ b. nat_le b rva) begins 0 inside in
          let after : rva < get_or begins (reached begins rva) 0 = search (rules, tests) in
          absurd (omega (arith, after, reaches, rising_to begins up (reached begins rva) half ge within))
    ]

-- and at or below one that begins after it
reached-below : (begins : List ℕ) (rva half : ℕ) → rva < slice_index begins half → reached begins rva ≤ half
reached-below begins rva half passes =
    elim (cases_lt half (reached begins rva)) [
      | inl less ↦
          let at : nat_le (get_or begins half 0) rva ≡ true = prefix_len_passes (λ b. nat_le b rva) begins half 0 less in
          let before : get_or begins half 0 ≤ rva = search (rules, tests) in
          absurd (omega (arith, before, passes))
      | inr ge ↦ ge
    ]

-- one digit less is half of a power
half_power : (d probes : ℕ) → probes < d → 2 ^ (d - probes) ≡ 2 ^ (d - (probes + 1)) * 2
half_power d probes less =
    let step : d - probes ≡ d - (probes + 1) + 1 = omega (arith, less) in
    ap (λ (k : ℕ). 2 ^ k) step ∙ pow-add 2 (d - (probes + 1)) 1

-- a part of at most half the size costs one probe
fewer : (d probes s t : ℕ) → 0 < s → t ≤ s / 2 → (probes ≤ d) × (s < 2 ^ (d - probes)) → (probes + 1 ≤ d) × (t < 2 ^ (d - (probes + 1)))
fewer d probes s t positive half h =
    elim (cases_lt probes d) [
      | inl less ↦ (omega (arith, less), omega (arith, half_power d probes less, half, h.1))
      | inr done ↦
          let none : d - probes ≡ 0 = omega (arith, done) in
          absurd (omega (arith, ap (λ (k : ℕ). 2 ^ k) none, h.1, positive))
    ]

-- a part of at least half the size, without the number in the middle, costs at most one probe of those that are needed
no_fewer : (d probes s t : ℕ) → 0 < s → s ≤ 2 * t + 2 → 2 ^ (d - probes) ≤ s + 1 → 2 ^ (d - (probes + 1)) ≤ t + 1
no_fewer d probes s t positive half h =
    elim (cases_lt probes d) [
      | inl less ↦ omega (arith, half_power d probes less, h, half)
      | inr done ↦
          let none : d - (probes + 1) ≡ 0 = omega arith in
          omega (arith, ap (λ (k : ℕ). 2 ^ k) none)
    ]

-- a power of two that is at most 1
pub no_power : (d probes : ℕ) → 2 ^ (d - probes) ≤ 1 → d ≤ probes
no_power d probes h =
    elim (cases_lt probes d) [
      | inl less ↦ absurd (omega (arith, half_power d probes less, h, pow_pos (d - (probes + 1))))
      | inr done ↦ done
    ]

-- a comparison with the number in the middle of a stretch is one of those that halving makes
counted_up : (low high half r probes all : ℕ) → low ≤ half → half < high → half < r → 2 * (half - low) ≤ high - low → high - low ≤ 2 * (half - low) + 1 → probes + halvings (high - low) (r - low) ≡ all → probes + 1 + halvings (high - (half + 1)) (r - (half + 1)) ≡ all
counted_up low high half r probes all from to above most least h =
    let middle : (high - low) / 2 ≡ half - low = omega arith in
    let one = halvings-up (high - low) (r - low) (omega arith) (omega arith) in
    let size : high - low - (high - low) / 2 - 1 ≡ high - (half + 1) = omega arith in
    let place : r - low - (high - low) / 2 - 1 ≡ r - (half + 1) = omega arith in
    let step : halvings (high - low) (r - low) ≡ 1 + halvings (high - (half + 1)) (r - (half + 1)) = rw (← size, ← place) one in
    omega (arith, h, step)

counted_down : (low high half r probes all : ℕ) → low ≤ half → half < high → r ≤ half → 2 * (half - low) ≤ high - low → high - low ≤ 2 * (half - low) + 1 → probes + halvings (high - low) (r - low) ≡ all → probes + 1 + halvings (half - low) (r - low) ≡ all
counted_down low high half r probes all from to below most least h =
    let middle : (high - low) / 2 ≡ half - low = omega arith in
    let one = halvings-down (high - low) (r - low) (omega arith) (omega arith) in
    let step : halvings (high - low) (r - low) ≡ 1 + halvings (half - low) (r - low) = rw (← middle) one in
    omega (arith, h, step)

-- a place in the middle of a stretch, and one probe at it
pub searched_up : (begins : List ℕ) (rva low high probes half : ℕ) → IsStrictlyIncreasing begins → IsSearched begins rva low high probes → low ≤ half → half < high → 2 * (half - low) ≤ high - low → high - low ≤ 2 * (half - low) + 1 → slice_index begins half ≤ rva → IsSearched begins rva (half + 1) high (probes + 1)
searched_up begins rva low high probes half up h from to most least reaches = record {
  ordered = omega arith;
  within = h.within;
  below = λ k lt. omega (arith, reaches, rising_to begins up k half (omega arith) (omega (arith, h.within)));
  above = h.above;
  most = λ d size. fewer d probes (high - low) (high - (half + 1)) (omega arith) (omega arith) (h.most d size);
  fewest = λ d size. no_fewer d probes (high - low) (high - (half + 1)) (omega arith) (omega arith) (h.fewest d size);
  counted = counted_up low high half (reached begins rva) probes (halvings (length begins) (reached begins rva)) from to (reached-above begins rva half up (omega (arith, h.within)) reaches) most least h.counted;
}

pub searched_down : (begins : List ℕ) (rva low high probes half : ℕ) → IsStrictlyIncreasing begins → IsSearched begins rva low high probes → low ≤ half → half < high → 2 * (half - low) ≤ high - low → high - low ≤ 2 * (half - low) + 1 → rva < slice_index begins half → IsSearched begins rva low half (probes + 1)
searched_down begins rva low high probes half up h from to most least passes = record {
  ordered = from;
  within = omega (arith, h.within);
  below = h.below;
  above = λ k ge lt. omega (arith, passes, rising_to begins up half k ge lt);
  most = λ d size. fewer d probes (high - low) (half - low) (omega arith) (omega arith) (h.most d size);
  fewest = λ d size. no_fewer d probes (high - low) (half - low) (omega arith) (omega arith) (h.fewest d size);
  counted = counted_down low high half (reached begins rva) probes (halvings (length begins) (reached begins rva)) from to (reached-below begins rva half passes) most least h.counted;
}

-- where a search ends, it has counted what begins at or before the address
pub searched_all : (begins : List ℕ) (rva low high probes : ℕ) → IsSearched begins rva low high probes → high ≤ low → low ≡ prefix_len (λ b. nat_le b rva) begins
searched_all begins rva low high probes h done =
    let passes : (k : ℕ) → k < low → nat_le (get_or begins k 0) rva ≡ true = λ k lt. let below : get_or begins k 0 ≤ rva = h.below k lt in search (rules, tests) in
    let stops : low < length begins → nat_le (get_or begins low 0) rva ≡ false = λ lt. let above : rva < get_or begins low 0 = h.above low done lt in search (rules, tests) in
    sym (prefix_len_is (λ b. nat_le b rva) begins low 0 (omega (arith, h.ordered, h.within)) passes stops)

-- and it made no fewer probes than halving needs
pub searched_fewest : (begins : List ℕ) (rva low high probes : ℕ) → IsSearched begins rva low high probes → high ≤ low → (d : ℕ) → 2 ^ d ≤ length begins + 1 → d ≤ probes
searched_fewest begins rva low high probes h done d size = no_power d probes (omega (arith, h.fewest d size))

-- and as many as halving makes
pub searched_counted : (begins : List ℕ) (rva low high probes : ℕ) → IsSearched begins rva low high probes → high ≤ low → probes ≡ halvings (length begins) (reached begins rva)
searched_counted begins rva low high probes h done =
    let none : high - low ≡ 0 = omega arith in
    let all : probes + halvings 0 (reached begins rva - low) ≡ halvings (length begins) (reached begins rva) = rw (← none) h.counted in
    omega (arith, all, halvings-none (reached begins rva - low))
