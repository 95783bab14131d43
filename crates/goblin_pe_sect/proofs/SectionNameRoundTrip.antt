-- A name that was written says what it was written for.
use Rattle.std.proofs.Common.{◌≡◌, ℕ, zero, suc, ◌+◌, ◌&&◌, Bool, true, false, nat_lt, nat_eq, List, [], ◌∷◌, ◌++◌, take, length, refl, ap, sym, ◌∙◌, arith, take_all, nat_le, ◌-◌, if◌then◌else◌, ◌<◌, ◌≤◌, ◌/◌, ◌%◌, ◌^◌, not, map, Some, replicate, Option, None, option_map, inl, inr, slice_index}
use Rattle.std.specs.List.{list_all}
use Rattle.std.proofs.{lemmas.Bool.Decides.nat_tests, lemmas.List.Folds.list_all_at}
use Rattle.std.proofs.lemmas.Option.{cond_some}
use Rattle.std.proofs.lemmas.Bool.{and_parts, cases_Bool, ltb-true, eqb-true, leb-true, false_from_ne_true, not-true, true≢false}
use Rattle.std.proofs.lemmas.List.{length-append, length-replicate, append-nil, length-map, get_or_append_left}
use Rattle.std.proofs.Math.Seq.{get_or-append_seam, take-append_seam}
use Rattle.goblin_base.specs.Bytes.{before_nul, bounded_text_at, text_of}
use Rattle.goblin_base.proofs.AsciiText.{ascii_text}
use Rattle.goblin_pe_sect.specs.Digits.{Digits, Decimal, Base64, alphabet, last_digits, digit_byte}
use Rattle.goblin_pe_sect.specs.Digits.{radix, numeral}
use Rattle.goblin_pe_sect.specs.SectionName.{name_value, text_value, decimal_number, decimal_width, indirect_name}
use Rattle.goblin_pe_sect.proofs.DigitsRoundTrip.{all_below, all_below-at, last_digits-below, numeral-written}

-- a byte that is ASCII and no NUL
abbrev pub is_nonzero_ascii : ℕ → Bool
is_nonzero_ascii b = nat_lt 0 b && nat_lt b 128

nonzero_ascii : (text : List ℕ) → list_all is_nonzero_ascii text ≡ true → (k : ℕ) → k < length text → (0 < slice_index text k) × (slice_index text k < 128)
nonzero_ascii text h k lt = elim (cases_Bool (is_nonzero_ascii (slice_index text k))) [
  | inl is ↦ grind (arith, nat_tests)
  | inr other ↦ absurd (true≢false (sym h ∙ list_all_at is_nonzero_ascii text k 0 lt other))
]

-- a text without NULs, with NULs after it
text-padded : (text : List ℕ) (k : ℕ) → list_all is_nonzero_ascii text ≡ true → text_of (before_nul (text ++ replicate k 0)) ≡ Some text
text-padded text k h =
    let all = text ++ replicate k 0 in
    let long : length all ≡ length text + k = length-append text (replicate k 0) ∙ ap (λ (n : ℕ). length text + n) (length-replicate k 0) in
    ascii_text all (length text) (omega (arith, long))
    (λ i lt. rw (get_or_append_left text (replicate k 0) 0 i lt) (nonzero_ascii text h i lt)) (nul_after k)
    ∙ ap (λ (xs : List ℕ). Some xs) (take-append_seam text (replicate k 0))
  where
    nul_after : (k : ℕ) → length text < length (text ++ replicate k 0) → slice_index (text ++ replicate k 0) (length text) ≡ 0
    nul_after zero lt = absurd (omega (arith, lt, ap length (append-nil text)))
    nul_after (suc k) lt = get_or-append_seam text 0 (replicate k 0) 0

-- the text after two slashes
pub after_two : (text : List ℕ) → list_all is_nonzero_ascii text ≡ true → length text ≡ 6 → bounded_text_at (47 ∷ 47 ∷ text) 2 6 ≡ Some text
after_two text h len =
    let all : length (47 ∷ 47 ∷ text) ≡ 8 = omega (arith, len) in
    let whole : take 6 text ≡ text = take_all 6 text (omega (arith, len)) in
    let good : text_of (before_nul text) ≡ Some text = ap (λ (xs : List ℕ). text_of (before_nul xs)) (sym (append-nil text)) ∙ text-padded text 0 h in
    rw (all, whole) good

-- the text after one slash, with NULs after it
pub after_one : (text : List ℕ) (k : ℕ) → list_all is_nonzero_ascii text ≡ true → length text + k ≡ 7 → bounded_text_at (47 ∷ (text ++ replicate k 0)) 1 7 ≡ Some text
after_one text k h len =
    let padded : length (text ++ replicate k 0) ≡ 7 = length-append text (replicate k 0) ∙ ap (λ (n : ℕ). length text + n) (length-replicate k 0) ∙ len in
    let all : length (47 ∷ (text ++ replicate k 0)) ≡ 8 = omega (arith, padded) in
    let whole : take 7 (text ++ replicate k 0) ≡ text ++ replicate k 0 = take_all 7 (text ++ replicate k 0) (omega (arith, padded)) in
    rw (all, whole) (text-padded text k h)

-- ---- what `name_offset` says after `set_name_offset`

length-last_digits : (r k n : ℕ) → length (last_digits r k n) ≡ k
unfolding last_digits
length-last_digits r zero n = refl
length-last_digits r (suc k) n =
    let front = length-last_digits r k (n / r) in
    length-append (last_digits r k (n / r)) (n % r ∷ []) ∙ rw front (omega arith)

digit_is_ascii : (s : Digits) (d : ℕ) → d < radix s → is_nonzero_ascii (digit_byte s d) ≡ true
unfolding all_below alphabet
digit_is_ascii Decimal d small = all_below-at (λ d. is_nonzero_ascii (digit_byte Decimal d)) 10 d refl small
digit_is_ascii Base64 d small = all_below-at (λ d. is_nonzero_ascii (digit_byte Base64 d)) 64 d refl small

digits_are_ascii : (s : Digits) (ds : List ℕ) → list_all (λ d. nat_lt d (radix s)) ds ≡ true → list_all is_nonzero_ascii (map (digit_byte s) ds) ≡ true
digits_are_ascii s [] h = refl
digits_are_ascii s (d ∷ ds) h =
    let parts = and_parts (nat_lt d (radix s)) (list_all (λ d. nat_lt d (radix s)) ds) h in
    let one = digit_is_ascii s d (ltb-true d (radix s) parts.0) in
    let rest = digits_are_ascii s ds parts.1 in
    ap (λ (b : Bool). b && list_all is_nonzero_ascii (map (digit_byte s) ds)) one ∙ rest

-- a number of six digits of base 64 is read from the name that was written for it
pub base64_back : (strict : Bool) (n : ℕ) → n < 64 ^ 6 → name_value strict (47 ∷ 47 ∷ map (digit_byte Base64) (last_digits 64 6 n)) ≡ Some (Some n)
unfolding alphabet name_value
base64_back strict n h =
    let text = map (digit_byte Base64) (last_digits 64 6 n) in
    let there = after_two text (digits_are_ascii Base64 (last_digits 64 6 n) (last_digits-below 64 6 n (omega arith))) (length-map (last_digits 64 6 n) (digit_byte Base64) ∙ length-last_digits 64 6 n) in
    ap (λ (o : Option (List ℕ)). text_value strict o (numeral Base64)) there ∙ ap (option_map (λ (m : ℕ). Some m)) (numeral-written Base64 6 n h)

-- a digit is no slash and no plus
digit_apart : (d : ℕ) → d < 10 → (nat_eq (digit_byte Decimal d) 47 ≡ false) × (nat_eq (digit_byte Decimal d) 43 ≡ false)
unfolding alphabet all_below
digit_apart d small =
    let apart = all_below-at (λ (d : ℕ). not (nat_eq (digit_byte Decimal d) 47) && not (nat_eq (digit_byte Decimal d) 43)) 10 d refl small in
    let parts = and_parts (not (nat_eq (digit_byte Decimal d) 47)) (not (nat_eq (digit_byte Decimal d) 43)) apart in
    (not-true _ parts.0, not-true _ parts.1)

-- decimal digits with NULs after them are read
decimal_read : (strict : Bool) (ds : List ℕ) (k n : ℕ) → list_all (λ d. nat_lt d 10) ds ≡ true → 0 < length ds → length ds + k ≡ 7 → numeral Decimal (map (digit_byte Decimal) ds) ≡ Some n
    → name_value strict (47 ∷ map (digit_byte Decimal) ds ++ replicate k 0) ≡ Some (Some n)
unfolding alphabet name_value
decimal_read strict [] k n digits some len value = absurd (omega (arith, some))
decimal_read strict (d ∷ ds) k n digits some len value =
    let text = map (digit_byte Decimal) (d ∷ ds) in
    let apart = digit_apart d (ltb-true d 10 (and_parts (nat_lt d 10) (list_all (λ d. nat_lt d 10) ds) digits).0) in
    let there = after_one text k (digits_are_ascii Decimal (d ∷ ds) digits) (ap (λ (m : ℕ). m + k) (length-map (d ∷ ds) (digit_byte Decimal)) ∙ len) in
    let nonempty : nat_eq (length text) 0 ≡ false = false_from_ne_true (nat_eq (length text) 0) (λ e. omega (arith, eqb-true (length text) 0 e)) in
    let read : decimal_number text ≡ Some n = rw (apart.1, nonempty) value in
    let here : name_value strict (47 ∷ text ++ replicate k 0) ≡ text_value strict (bounded_text_at (47 ∷ (text ++ replicate k 0)) 1 7) decimal_number = rw apart.0 refl in
    here ∙ ap (λ (o : Option (List ℕ)). text_value strict o decimal_number) there ∙ ap (option_map (λ (m : ℕ). Some m)) read

-- the width of a number has room for it
fits_width : (n : ℕ) → n ≤ 9999999 → (n < 10 ^ decimal_width n) × (0 < decimal_width n) × (decimal_width n ≤ 7)
fits_width n most = at (nat_lt n 10) (nat_lt n 100) (nat_lt n 1000) (nat_lt n 10000) (nat_lt n 100000) (nat_lt n 1000000) refl refl refl refl refl refl
  where
    width : Bool → Bool → Bool → Bool → Bool → Bool → ℕ
    width a b c d e f = if a then 1 else if b then 2 else if c then 3 else if d then 4 else if e then 5 else if f then 6 else 7

    at : (a b c d e f : Bool) → nat_lt n 10 ≡ a → nat_lt n 100 ≡ b → nat_lt n 1000 ≡ c → nat_lt n 10000 ≡ d → nat_lt n 100000 ≡ e → nat_lt n 1000000 ≡ f
        → (n < 10 ^ width a b c d e f) × (0 < width a b c d e f) × (width a b c d e f ≤ 7)
    at true b c d e f h1 h2 h3 h4 h5 h6 = (ltb-true n 10 h1, omega arith, omega arith)
    at false true c d e f h1 h2 h3 h4 h5 h6 = (ltb-true n 100 h2, omega arith, omega arith)
    at false false true d e f h1 h2 h3 h4 h5 h6 = (ltb-true n 1000 h3, omega arith, omega arith)
    at false false false true e f h1 h2 h3 h4 h5 h6 = (ltb-true n 10000 h4, omega arith, omega arith)
    at false false false false true f h1 h2 h3 h4 h5 h6 = (ltb-true n 100000 h5, omega arith, omega arith)
    at false false false false false true h1 h2 h3 h4 h5 h6 = (ltb-true n 1000000 h6, omega arith, omega arith)
    at false false false false false false h1 h2 h3 h4 h5 h6 = (omega (arith, most), omega arith, omega arith)

pub decimal_back : (strict : Bool) (n : ℕ) → n ≤ 9999999
    → name_value strict (47 ∷ map (digit_byte Decimal) (last_digits 10 (decimal_width n) n) ++ replicate (7 - decimal_width n) 0) ≡ Some (Some n)
unfolding alphabet
decimal_back strict n most =
    let fits = fits_width n most in
    let long = length-last_digits 10 (decimal_width n) n in
    decimal_read strict (last_digits 10 (decimal_width n) n) (7 - decimal_width n) n (last_digits-below 10 (decimal_width n) n (omega arith)) (omega (arith, long, fits.1)) (omega (arith, long, fits.2)) (numeral-written Decimal (decimal_width n) n fits.0)

by_range : (strict : Bool) (n : ℕ) (name : List ℕ) (decimal wide : Bool) → nat_le n 9999999 ≡ decimal → nat_lt n (64 ^ 6) ≡ wide
    → (if decimal then Some (47 ∷ map (digit_byte Decimal) (last_digits 10 (decimal_width n) n) ++ replicate (7 - decimal_width n) 0) else if wide then Some (47 ∷ 47 ∷ map (digit_byte Base64) (last_digits 64 6 n)) else None) ≡ Some name
    → name_value strict name ≡ Some (Some n)
by_range strict n name true wide e f is = ap (name_value strict) (sym (cond_some true _ name is).1) ∙ decimal_back strict n (leb-true n 9999999 e)
by_range strict n name false true e f is = ap (name_value strict) (sym (cond_some true _ name is).1) ∙ base64_back strict n (ltb-true n (64 ^ 6) f)
by_range strict n name false false e f is = absurd (cc)

-- a name that says n is read as n
pub name_back : (strict : Bool) (n : ℕ) (name : List ℕ) → indirect_name n ≡ Some name → name_value strict name ≡ Some (Some n)
unfolding indirect_name
name_back strict n name is = by_range strict n name (nat_le n 9999999) (nat_lt n (64 ^ 6)) refl refl is
