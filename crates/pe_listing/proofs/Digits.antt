-- The digits of a number, which are written to places from the last one on.
use Rattle.std.proofs.Common.{◌≡◌, ℕ, zero, suc, ◌+◌, ◌-◌, ◌/◌, ◌%◌, ◌^◌, ◌<◌, ◌≤◌, Bool, true, false, cond, IsAscii, IsUtf8, List, [], ◌∷◌, length, set, take, drop, ap, refl, sym, ◌∙◌, arith, div-lt_iff_lt-mul, drop_of_length-le, le-div_iff_mul-le, length-drop, length-set, mod-eq_of_lt, one-mul, pow-suc, take_all, ◌==◌, eq-eqb, ne_eqb}
use Rattle.std.proofs.Math.Nat.{div-eq_of_lt, pow-zero}
use Rattle.std.specs.Fmt.{digit_glyph, digits, digits_onto}
use Rattle.std.proofs.lemmas.List.{drop-set}
use Rattle.std.proofs.lemmas.Str.{IsUtf8-from_ascii}
use Rattle.std.proofs.lemmas.Str.Ascii.{IsAscii-cons}

-- the places after `start` have the last digits of a number, before which those of `rest` come
pub record AreFilled (base number rest start : ℕ) (places : List ℕ) : Type 0 where
  pub long : length places ≡ 20
  pub within : start < 20
  pub room : rest < base ^ suc start
  pub ascii : IsAscii (drop (start + 1) places)
  pub value : digits_onto (start + 45) base false rest (drop (start + 1) places) ≡ digits base false number

-- the last digit of a number, with those before it or without
spell : (base n k count : ℕ) (acc : List ℕ) (t : Bool) → count ≡ suc k → (n / base == 0) ≡ t
    → cond t (digit_glyph false (n % base) ∷ acc) (digits_onto k base false (n / base) (digit_glyph false (n % base) ∷ acc)) ≡ digits_onto count base false n acc
spell base n k count acc t same e =
    ap (λ (b : Bool). cond b (digit_glyph false (n % base) ∷ acc) (digits_onto k base false (n / base) (digit_glyph false (n % base) ∷ acc))) (sym e)
    ∙ ap (λ (j : ℕ). digits_onto j base false n acc) (sym same)

module _ (base number : ℕ) (places : List ℕ) where
  pub none_filled : number < base ^ 20 → length places ≡ 20 → AreFilled base number number 19 places
  unfolding digits
  none_filled room long =
      let none = drop_of_length-le places {i = 20} (omega arith) in
      record {
        long = long;
        within = omega arith;
        room = room;
        ascii = rw none (λ i. omega arith);
        value = ap (digits_onto 64 base false number) none;
      }

  -- the first place has room for no more than one digit
  pub not_first : (rest start : ℕ) → AreFilled base number rest start places → base ≤ rest → 0 < start
  not_first rest zero filled more = let room : rest < base = rw (pow-suc base 0, pow-zero base, one-mul base) at filled.room in absurd (omega arith)
  not_first rest (suc start) filled more = omega arith

  module _ (rest start digit : ℕ) (filled : AreFilled base number rest start places) where
    written : drop start (set places start digit) ≡ digit ∷ drop (start + 1) places
    written = drop-set places start digit (omega (arith, filled.long, filled.within))

    pub all_ascii : digit < 128 → IsAscii (drop start (set places start digit))
    all_ascii small = rw written (IsAscii-cons _ _ small filled.ascii)

    pub all_filled : rest < base → digit ≡ digit_glyph false rest → drop start (set places start digit) ≡ digits base false number
    all_filled last is =
        let count : start + 45 ≡ suc (start + 44) = omega arith in
        written ∙ ap (λ (d : ℕ). d ∷ drop (start + 1) places) (is ∙ ap (digit_glyph false) (sym (mod-eq_of_lt last)))
        ∙ spell base rest (start + 44) (start + 45) (drop (start + 1) places) true count (eq-eqb _ 0 (div-eq_of_lt last)) ∙ filled.value

    pub more_filled : (next : ℕ) → next + 1 ≡ start → 2 ≤ base → base ≤ rest → digit ≡ digit_glyph false (rest % base) → digit < 128 → AreFilled base number (rest / base) next (set places start digit)
    more_filled next before lowest more is small =
        let some : 1 ≤ rest / base = (le-div_iff_mul-le {k = base} (omega arith)).1 (omega arith) in
        let place : start ≡ suc next = omega arith in
        let count : start + 45 ≡ suc (next + 45) = omega arith in
        let first : drop (next + 1) (set places start digit) ≡ digit_glyph false (rest % base) ∷ drop (start + 1) places = rw (before, written, is) refl in
        record {
          long = length-set places start digit ∙ filled.long;
          within = omega (arith, filled.within);
          room = (div-lt_iff_lt-mul {k = base} (omega arith)).1 (rw (place, pow-suc base (suc next)) at filled.room);
          ascii = rw before (all_ascii small);
          value = ap (digits_onto (next + 45) base false (rest / base)) first
              ∙ spell base rest (next + 45) (start + 45) (drop (start + 1) places) false count (ne_eqb _ 0 (λ z. omega arith)) ∙ filled.value;
        }

-- a number below the base is one digit
pub one_digit : (base n : ℕ) → n < base → digits base false n ≡ digit_glyph false n ∷ []
unfolding digits
one_digit base n small =
    sym (ap (λ (d : ℕ). digit_glyph false d ∷ []) (sym (mod-eq_of_lt small)) ∙ spell base n 63 64 [] true refl (eq-eqb _ 0 (div-eq_of_lt small)))

-- the places from the first digit on are text
pub digits_are_text : (places : List ℕ) (start : ℕ) → length places ≡ 20 → IsAscii (drop start places) → IsUtf8 (take (20 - start) (drop start places))
digits_are_text places start long ascii = IsUtf8-from_ascii _ (rw (take_all (20 - start) (drop start places) (omega (arith, length-drop start places))) ascii)
