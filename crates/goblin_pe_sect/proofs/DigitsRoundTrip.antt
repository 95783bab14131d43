-- Digits that were written are read again.
use Rattle.std.proofs.Common.{rules, ◌≢◌, ◌≡◌, ◌<◌, ℕ, zero, suc, ◌+◌, ◌*◌, ◌/◌, ◌%◌, ◌^◌, ◌&&◌, Bool, true, false, nat_lt, nat_eq, List, [], ◌∷◌, map, refl, ap, ◌∙◌, arith, Some, div-add-mod'}
use Rattle.std.specs.List.{list_all}
use Rattle.std.proofs.lemmas.List.Folds.{list_all-append}
use Rattle.std.proofs.lemmas.Bool.{and_parts, lt-ltb, ltb-true, eqb-true}
use Rattle.std.proofs.Math.Nat.{pow-zero, pow-suc, mod-lt, div-lt_iff_lt-mul}
use Rattle.goblin_pe_sect.specs.Digits.{Digits, Decimal, Base64, alphabet, digits_sum, last_digits, digit, digit_byte, radix, numeral}
use Rattle.goblin_pe_sect.proofs.DigitSums.{digits_sum-more, radix_range}

-- the last k digits of a number below r ^ k write it
pub digits_sum-last_digits : (r k n : ℕ) → 0 < r → n < r ^ k → digits_sum r (last_digits r k n) ≡ n
unfolding digits_sum last_digits
digits_sum-last_digits r zero n positive h = let one : r ^ 0 ≡ 1 = pow-zero r in omega (arith, one, h)
digits_sum-last_digits r (suc k) n positive h =
    let small : n < r ^ k * r = omega (arith, h, pow-suc r k) in
    let below : n / r < r ^ k = (div-lt_iff_lt-mul positive).1 small in
    digits_sum-more r (last_digits r k (n / r)) (n % r) ∙ ap (λ (x : ℕ). x * r + n % r) (digits_sum-last_digits r k (n / r) positive below) ∙ div-add-mod' n r

-- each digit is below the base
pub last_digits-below : (r k n : ℕ) → 0 < r → list_all (λ d. nat_lt d r) (last_digits r k n) ≡ true
unfolding last_digits
last_digits-below r zero n positive = refl
last_digits-below r (suc k) n positive =
    let last : nat_lt (n % r) r ≡ true = lt-ltb (n % r) r (mod-lt n positive) in
    let front = last_digits-below r k (n / r) positive in
    list_all-append (λ d. nat_lt d r) (last_digits r k (n / r)) (n % r ∷ []) ∙ rw (front, last) refl

-- whether all numbers below n pass
unfoldable pub all_below : (ℕ → Bool) → ℕ → Bool
all_below test zero = true
all_below test (suc n) = test n && all_below test n

at_or_below : (test : ℕ → Bool) (n d : ℕ) → (test n && all_below test n) ≡ true → d < suc n → (all_below test n ≡ true → d < n → test d ≡ true) → (b : Bool) → nat_eq d n ≡ b → test d ≡ true
at_or_below test n d h small lower true e = ap test (eqb-true d n e) ∙ (and_parts (test n) (all_below test n) h).0
at_or_below test n d h small lower false e = lower (and_parts (test n) (all_below test n) h).1 (let apart : d ≢ n = search (rules, e) in omega (arith, small, apart))

pub all_below-at : (test : ℕ → Bool) (n d : ℕ) → all_below test n ≡ true → d < n → test d ≡ true
unfolding all_below
all_below-at test zero d h small = absurd (omega (arith, small))
all_below-at test (suc n) d h small = at_or_below test n d h small (λ parts less. all_below-at test n d parts less) (nat_eq d n) refl

-- a digit is read from its byte
pub digit-digit_byte : (s : Digits) (d : ℕ) → d < radix s → digit s (digit_byte s d) ≡ d
unfolding all_below alphabet
digit-digit_byte Decimal d small = eqb-true (digit Decimal (digit_byte Decimal d)) d (all_below-at (λ d. nat_eq (digit Decimal (digit_byte Decimal d)) d) 10 d refl small)
digit-digit_byte Base64 d small = eqb-true (digit Base64 (digit_byte Base64 d)) d (all_below-at (λ d. nat_eq (digit Base64 (digit_byte Base64 d)) d) 64 d refl small)

digits_back : (s : Digits) (ds : List ℕ) → list_all (λ d. nat_lt d (radix s)) ds ≡ true
    → (map (digit s) (map (digit_byte s) ds) ≡ ds) × (list_all (λ b. nat_lt (digit s b) (radix s)) (map (digit_byte s) ds) ≡ true)
digits_back s [] h = (refl, refl)
digits_back s (d ∷ ds) h =
    let parts = and_parts (nat_lt d (radix s)) (list_all (λ d. nat_lt d (radix s)) ds) h in
    let one = digit-digit_byte s d (ltb-true d (radix s) parts.0) in
    let rest = digits_back s ds parts.1 in
    (rw (one, rest.0) refl, rw (one, parts.0, rest.1) refl)

-- what is written of a number that fits is read as it
pub numeral-written : (s : Digits) (k n : ℕ) → n < radix s ^ k → numeral s (map (digit_byte s) (last_digits (radix s) k n)) ≡ Some n
numeral-written s k n h =
    let back = digits_back s (last_digits (radix s) k n) (last_digits-below (radix s) k n (radix_range s).0) in
    let sum = digits_sum-last_digits (radix s) k n (radix_range s).0 h in
    rw (back.1, back.0, sum) refl
