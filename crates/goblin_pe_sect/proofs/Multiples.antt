-- The nearest multiples by division.
use Rattle.std.proofs.Common.{◌≡◌, ℕ, zero, suc, ◌+◌, ◌-◌, ◌*◌, ◌/◌, ◌%◌, ◌^◌, ◌<◌, ◌≤◌, Bool, true, false, ◌&&◌, nat_le, refl, ap, sym, ◌∙◌, inl, inr, arith, rules, tests}
use Rattle.std.proofs.lemmas.Bool.{cases_lt, cases_Bool}
use Rattle.std.proofs.{lemmas.Bool.Decides.nat_tests, lemmas.Nat.mod_below}
use Prim.Native.Nat.{◌∣◌}
use Rattle.std.proofs.Math.Nat.{dvd-sub, dvd-mul_left, le_of_dvd, dvd_of_mod-eq-zero, mod-eq-zero_of_dvd, div-add-mod'}
use Rattle.goblin_base.proofs.Below.{least-is}
use Rattle.goblin_pe_sect.specs.Multiples.{is_multiple, greatest, greatest_multiple, least_multiple}

-- two multiples that are less than a step apart are the same
near_multiples : (step low high : ℕ) → low % step ≡ 0 → high % step ≡ 0 → low ≤ high → high < low + step → low ≡ high
near_multiples step low high a b le lt =
    elim (cases_lt low high) [
      | inl less ↦
          let apart : step ∣ high - low = dvd-sub step (dvd_of_mod-eq-zero step b) (dvd_of_mod-eq-zero step a) in
          let far : step ≤ high - low = le_of_dvd (omega arith) apart in
          absurd (omega (arith, far))
      | inr ge ↦ omega arith
    ]

-- the greatest number up to n that passes, by what it is
greatest_is : (test : ℕ → Bool) (n s : ℕ) → s ≤ n → test s ≡ true → ((j : ℕ) → s < j → j ≤ n → test j ≡ false) → greatest test n ≡ s
unfolding greatest
greatest_is test zero s le here after = omega arith
greatest_is test (suc n) s le here after =
    elim (cases_lt s (suc n)) [
      | inl less ↦
          let fails : test (suc n) ≡ false = after (suc n) less (omega arith) in
          rw fails (greatest_is test n s (omega arith) here (λ j lt most. after j lt (omega arith)))
      | inr ge ↦
          let same : s ≡ suc n = omega arith in
          let passes : test (suc n) ≡ true = ap test (sym same) ∙ here in
          rw (passes, same) refl
    ]

quotient_is_multiple : (step x : ℕ) → x / step * step % step ≡ 0
quotient_is_multiple step x = mod-eq-zero_of_dvd step (dvd-mul_left step (x / step))

-- the multiple at or below a number, by division
pub down : (step x : ℕ) → 0 < step → x / step * step ≡ greatest_multiple step x
unfolding greatest_multiple
down step x some =
    let split = div-add-mod' x step in
    let rest : x % step < step = mod_below x step some in
    let multiple : x / step * step % step ≡ 0 = quotient_is_multiple step x in
    sym (greatest_is (is_multiple step) x (x / step * step) (omega (arith, split)) (search (rules, tests))
    (λ j more most. elim (cases_Bool (is_multiple step j)) [
      | inl passes ↦
          let at : j % step ≡ 0 = search (rules, tests) in
          absurd (omega (arith, near_multiples step (x / step * step) j multiple at (omega arith) (omega (arith, split, rest))))
      | inr fails ↦ fails
    ]))

-- a multiple at or above a number is less than one step from it
rounding : (step x : ℕ) → 0 < step → (x ≤ (x + (step - 1)) / step * step) × ((x + (step - 1)) / step * step < x + step)
rounding step x some =
    omega (arith, div-add-mod' (x + (step - 1)) step, mod_below (x + (step - 1)) step some)

-- the multiple at or above a number, by division
pub up : (step x : ℕ) → 0 < step → (x + (step - 1)) / step * step ≡ least_multiple step x
unfolding least_multiple
up step x some =
    let next : ℕ = (x + (step - 1)) / step * step in
    let near = rounding step x some in
    let multiple : next % step ≡ 0 = quotient_is_multiple step (x + (step - 1)) in
    sym (least-is (λ m. nat_le x m && is_multiple step m) (x + step) next (omega (arith, near))
    (λ j less. elim (cases_Bool (nat_le x j && is_multiple step j)) [
      | inl passes ↦
          let both : (x ≤ j) × (j % step ≡ 0) = grind (arith, nat_tests) in
          absurd (omega (arith, near_multiples step j next both.1 multiple (omega arith) (omega (arith, near, both.0))))
      | inr fails ↦ fails
    ])
    (λ within. let at : x ≤ next = near.0 in grind (arith, nat_tests)))

-- the least multiple from a number on is less than one step from it
pub up_near : (step x : ℕ) → 0 < step → (x ≤ least_multiple step x) × (least_multiple step x < x + step)
up_near step x some = omega (arith, up step x some, rounding step x some)

-- the size of pages for a number of 32 bits
pub pages_fit : (n : ℕ) → n < 2 ^ 32 → least_multiple 4096 n ≤ 2 ^ 32
pages_fit n small =
    omega (arith, small, up 4096 n (omega arith), div-add-mod' (n + (4096 - 1)) 4096)
