-- Digits, one digit_after the other.
use Rattle.std.proofs.Common.{suc, ◌-◌, ◌/◌, ◌%◌, ◌≡◌, ℕ, ◌+◌, ◌*◌, ◌^◌, ◌<◌, ◌≤◌, List, [], ◌∷◌, ◌++◌, Bool, true, false, ◌&&◌, refl, take, drop, map, length, ap, sym, ◌∙◌, arith, append_assoc, if◌then◌else◌, nat_lt, position, slice_index, slice_set, IfSome, None, Some, le-ltb, take-suc}
use Rattle.std.specs.List.{list_all, position_or_len}
use Rattle.std.proofs.lemmas.List.{length-append, map-append, take-set-le, drop-set, append-nil, take-append-drop}
use Rattle.std.proofs.lemmas.List.Folds.{list_all_at, list_all_more}
use Rattle.std.proofs.{lemmas.Grind.pow_more, Math.Nat.pow-le-pow_right, Math.Nat.pow-zero}
use Rattle.goblin_pe_sect.specs.Digits.{Digits, Decimal, Base64, alphabet, digits_sum, digit, numeral, radix, digit_byte, last_digits}

alone : (r d : ℕ) → d * r ^ 0 + 0 ≡ 0 * r + d
alone r d =
    let one : r ^ 0 ≡ 1 = pow-zero r in
    rw one (omega arith)

digit_after : (x p s r d : ℕ) → x * (p * r) + (s * r + d) ≡ (x * p + s) * r + d
digit_after x p s r d = grind arith

-- one more digit
pub digits_sum-more : (r : ℕ) (ds : List ℕ) (d : ℕ) → digits_sum r (ds ++ d ∷ []) ≡ digits_sum r ds * r + d
unfolding digits_sum
digits_sum-more r [] d = alone r d
digits_sum-more r (x ∷ xs) d =
    let rest = digits_sum-more r xs d in
    let long : r ^ length (xs ++ d ∷ []) ≡ r ^ length xs * r = ap (λ (k : ℕ). r ^ k) (length-append xs (d ∷ [])) ∙ pow_more r (length xs) in
    rw (long, rest) (digit_after x (r ^ length xs) (digits_sum r xs) r d)

-- there are at most 64 digits, and one at least
pub radix_range : (s : Digits) → (0 < radix s) × (radix s ≤ 64)
unfolding alphabet
radix_range Decimal = (omega arith, omega arith)
radix_range Base64 = (omega arith, omega arith)

-- one more digit keeps the number below the power of the next place
grows : (p n r d : ℕ) → n < p → r ≤ 64 → d < r → n * r + d < p * 64
grows p n r d small few digit =
    let most : n * r + r ≤ (n + 1) * 64 = grind arith in
    let next : (n + 1) * 64 ≤ p * 64 = omega (arith, small) in
    omega (arith, most, next, digit)

pub number_fits : (s : Digits) (i n d r : ℕ) → r ≡ radix s → i ≤ 6 → n < 64 ^ i → d < radix s → (n * r + d < 64 ^ (i + 1)) × (n * r + d < 4398046511104)
number_fits s i n d r same most small digit =
    let few = (radix_range s).1 in
    let next = pow_more 64 i in
    let top : 64 ^ i ≤ 64 ^ 6 = pow-le-pow_right (omega arith) most in
    let fits : n * r + d < 64 ^ i * 64 = grows (64 ^ i) n r d small (omega (arith, same, few)) (omega (arith, same, digit)) in
    (omega (arith, next, fits), omega (arith, top, fits))

taken : (bytes : List ℕ) (i : ℕ) → i < length bytes → take (i + 1) bytes ≡ take i bytes ++ slice_index bytes i ∷ []
taken bytes i h =
    let next : i + 1 ≡ suc i = omega arith in
    ap (λ (k : ℕ). take k bytes) next ∙ take-suc bytes i 0 h

-- the number of the digits up to the next
pub number-more : (s : Digits) (bytes : List ℕ) (i n d r : ℕ) → i < length bytes → r ≡ radix s → d ≡ digit s (slice_index bytes i) → n ≡ digits_sum (radix s) (map (digit s) (take i bytes))
    → n * r + d ≡ digits_sum (radix s) (map (digit s) (take (i + 1) bytes))
number-more s bytes i n d r inside er ed en =
    let shown : map (digit s) (take (i + 1) bytes) ≡ map (digit s) (take i bytes) ++ digit s (slice_index bytes i) ∷ [] = ap (map (digit s)) (taken bytes i inside) ∙ map-append (digit s) (take i bytes) (slice_index bytes i ∷ []) in
    let sum = digits_sum-more (radix s) (map (digit s) (take i bytes)) (digit s (slice_index bytes i)) in
    rw (en, er, ed) (sym (ap (digits_sum (radix s)) shown ∙ sum))

-- one more is a digit
pub all-more : (test : ℕ → Bool) (bytes : List ℕ) (i : ℕ) → i < length bytes → list_all test (take i bytes) ≡ true → test (slice_index bytes i) ≡ true → list_all test (take (i + 1) bytes) ≡ true
all-more test bytes i inside so_far here = list_all_more test bytes i 0 inside ∙ ap (λ (b : Bool). b && test (slice_index bytes i)) so_far ∙ here

-- the bytes once the digits of the rest are before `at`
abbrev pub finished : Digits → ℕ → ℕ → ℕ → List ℕ → List ℕ
finished s from at rest name = take from name ++ map (digit_byte s) (last_digits (radix s) (at - from) rest) ++ drop at name

written-last_digit : (s : Digits) (k n : ℕ) → map (digit_byte s) (last_digits (radix s) (k + 1) n) ≡ map (digit_byte s) (last_digits (radix s) k (n / radix s)) ++ digit_byte s (n % radix s) ∷ []
unfolding last_digits
written-last_digit s k n =
    let next : k + 1 ≡ suc k = omega arith in
    ap (λ (j : ℕ). map (digit_byte s) (last_digits (radix s) j n)) next ∙ map-append (digit_byte s) (last_digits (radix s) k (n / radix s)) (n % radix s ∷ [])

joined : (t d r : List ℕ) (b : ℕ) → t ++ (d ++ b ∷ []) ++ r ≡ t ++ d ++ (b ∷ r)
joined t d r b = ap (λ (xs : List ℕ). xs ++ r) (sym (append_assoc t d (b ∷ []))) ∙ append_assoc (t ++ d) (b ∷ []) r

-- one more digit is written
pub finished-step : (s : Digits) (from a rest q b : ℕ) (name : List ℕ) → from ≤ a → a < length name → q ≡ rest / radix s → b ≡ digit_byte s (rest % radix s)
    → finished s from a q (slice_set name a b) ≡ finished s from (a + 1) rest name
finished-step s from a rest q b name order inside eq eb =
    let front : take from (slice_set name a b) ≡ take from name = take-set-le from name a b order in
    let back : drop a (slice_set name a b) ≡ b ∷ drop (a + 1) name = drop-set name a b inside in
    let count : a + 1 - from ≡ a - from + 1 = omega (arith, order) in
    let last = written-last_digit s (a - from) rest in
    rw (front, back, count, last, eq, sym eb) (sym (joined (take from name) (map (digit_byte s) (last_digits (radix s) (a - from) (rest / radix s))) (drop (a + 1) name) b))

-- with no digit left the bytes are what they are
pub finished-end : (s : Digits) (from rest : ℕ) (name : List ℕ) → finished s from from rest name ≡ name
unfolding last_digits
finished-end s from rest name =
    let none : from - from ≡ 0 = omega arith in
    rw none (ap (λ (xs : List ℕ). xs ++ drop from name) (append-nil (take from name)) ∙ take-append-drop from name)

-- where a byte is no digit, the text is no number
pub numeral-none : (s : Digits) (text : List ℕ) (i : ℕ) → i < length text → radix s ≤ digit s (slice_index text i) → numeral s text ≡ None
numeral-none s text i inside past =
    let no : nat_lt (digit s (slice_index text i)) (radix s) ≡ false = le-ltb _ _ past in
    let none = list_all_at (λ b. nat_lt (digit s b) (radix s)) text i 0 inside no in
    rw none refl

-- the place that is found
pub position-place : {X : Type 0} (p : X → Bool) (xs : List X) → IfSome (position p xs) (λ i. i ≡ position_or_len p xs)
position-place p xs = place (nat_lt (position_or_len p xs) (length xs)) (position_or_len p xs)
  where
    place : (b : Bool) (i : ℕ) → IfSome (if b then Some i else None) (λ k. k ≡ i)
    place true i = refl
    place false i = tt
