-- Forwarder texts: what the reader's calls say of them, and that the value is the grammar's.
use Rattle.std.proofs.Common.{◌≡◌, ◌≢◌, ◌↔◌, ◌<◌, ◌+◌, ◌^◌, ◌&&◌, ℕ, Bool, true, false, ltb, eqb, Some, None, List, [], ◌∷◌, ◌++◌, length, get_or, take, drop, Option, Result, Ok, Err, sym, ap, subst, ◌∙◌, refl, arith, inl, inr, option_map}
use Rattle.std.proofs.lemmas.Bool.{cases_Bool, cases_lt, eqb-true, ltb-true, lt-ltb, eq-eqb, ne_eqb, and_parts, and_from, false_from_ne_true, true≢false}
use Rattle.std.proofs.lemmas.List.{drop_all, length-append, length-take, get_or-take}
use Rattle.std.proofs.lemmas.List.Sums.{split_at_first, fails_before_first, passes_at_first, position_or_len_is}
use Rattle.std.proofs.lemmas.Str.Parse.{IsNumeralModel, numerals_by_value, tells_all_ascii_digits}
use Rattle.std.proofs.Math.Seq.{take-append_seam, drop-append-add, get_or-append_seam}
use Rattle.std.proofs.Math.ListN.{get_or-append}
use Rattle.std.specs.{Result.result_ok, Str.all_ascii_digits}
use Rattle.std.specs.List.{position_or_len, before_first, after_first}
use Rattle.std.specs.Str.Parse.{IsNumeral, digits_value, without_leading_plus, ParsesUnsigned}
use Rattle.goblin_pe_export.specs.Forwarders.{Forwarder, IsForwarder, is_dot, ordinal_of, export_of, forwarder_in_text, forwarder_of}
use Rattle.goblin_pe_export.specs.Forwarders.Forwarder.{ByName, ByOrdinal}
use Rattle.goblin_pe_export.specs.Forwarders.IsForwarder.{Named, Numbered}

own : IsNumeralModel (λ ds. all_ascii_digits ds ≡ true) (digits_value 10)
own = numerals_by_value _ tells_all_ascii_digits

-- the test that `ordinal_of` makes
abbrev is_ordinal : List ℕ → Bool
is_ordinal digits = (ltb 0 (length digits) && all_ascii_digits digits) && ltb (digits_value 10 digits) (2 ^ 32)

numeral-is_ordinal : (digits : List ℕ) → IsNumeral 10 digits → digits_value 10 digits < 2 ^ 32 → is_ordinal digits ≡ true
numeral-is_ordinal digits n l =
    and_from _ _ (and_from _ _ (lt-ltb 0 (length digits) n.0) (own.from digits n.1)) (lt-ltb (digits_value 10 digits) (2 ^ 32) l)

is_ordinal-numeral : (digits : List ℕ) → is_ordinal digits ≡ true → IsNumeral 10 digits × (digits_value 10 digits < 2 ^ 32)
is_ordinal-numeral digits t =
    let p = and_parts _ _ t in
    let q = and_parts _ _ p.0 in
    ((ltb-true 0 (length digits) q.0, own.to digits q.1), ltb-true (digits_value 10 digits) (2 ^ 32) p.1)

-- std's `parse` gives the ordinal
pub parsed_ordinal : {E : Type 0} → (text : List ℕ) (r : Result ℕ E) → ParsesUnsigned 32 10 text r → result_ok r ≡ ordinal_of text
unfolding ordinal_of
parsed_ordinal text (Ok n) h =
    let t : is_ordinal (without_leading_plus text) ≡ true = numeral-is_ordinal (without_leading_plus text) h.0.0 h.0.1 in
    rw t (ap Some h.1)
parsed_ordinal text (Err e) h =
    let f : is_ordinal (without_leading_plus text) ≡ false = false_from_ne_true _ (λ t. h (is_ordinal-numeral (without_leading_plus text) t)) in
    rw f refl

-- the parts round the first dot say it
pub forwarder-parts : (text lib tail : List ℕ) → lib ≡ before_first is_dot text → tail ≡ after_first is_dot text → forwarder_of text ≡ export_of lib tail
unfolding forwarder_of
forwarder-parts text lib tail a b = rw (a, b) refl

pub nothing-after : (text : List ℕ) → position_or_len is_dot text ≡ length text → after_first is_dot text ≡ []
nothing-after text h = drop_all (position_or_len is_dot text + 1) text (omega (arith, h))

-- a text that is whole names what it says
pub not_longer : (is_longer : Bool) (text : List ℕ) (found : Option Forwarder) → is_longer ≡ false → forwarder_of text ≡ found → forwarder_in_text is_longer text ≡ found
not_longer false text found none h = h
not_longer true text found none h = absurd cc

pub forwarder-missing : (text : List ℕ) → after_first is_dot text ≡ [] → forwarder_of text ≡ None
unfolding forwarder_of export_of
forwarder-missing text h = rw h refl

pub export-numbered : (lib tail digits : List ℕ) → tail ≡ 35 ∷ digits → export_of lib tail ≡ option_map (λ n. ByOrdinal n lib) (ordinal_of digits)
unfolding export_of
export-numbered lib tail digits h = rw h refl

pub export-named : (lib tail : List ℕ) → 0 < length tail → get_or tail 0 0 ≢ 35 → export_of lib tail ≡ Some (ByName tail lib)
unfolding export_of
export-named lib [] l h = absurd (omega arith)
export-named lib (c ∷ rest) l h = rw (ne_eqb c 35 h) refl

pub no-hash : (tail : List ℕ) → ((rest : List ℕ) → tail ≢ 35 ∷ rest) → get_or tail 0 0 ≢ 35
no-hash [] h = λ e. absurd (omega (arith, e))
no-hash (c ∷ rest) h = λ e. h rest (ap (λ x. x ∷ rest) e)

pub no-length : (xs : List ℕ) → eqb (length xs) 0 ≡ true → xs ≡ []
no-length [] h = refl
no-length (x ∷ xs) h = absurd (omega (arith, eqb-true _ _ h))

pub some-length : (xs : List ℕ) → eqb (length xs) 0 ≡ false → 0 < length xs
some-length [] h = absurd (true≢false h)
some-length (x ∷ xs) h = omega arith

-- The value is the grammar's.

dot-place : (lib tail : List ℕ) → ((i : ℕ) → i < length lib → get_or lib i 0 ≢ 46) → position_or_len is_dot (lib ++ 46 ∷ tail) ≡ length lib
dot-place lib tail h =
    position_or_len_is is_dot (lib ++ 46 ∷ tail) (length lib) 0 (omega (arith, length-append lib (46 ∷ tail)))
    (λ k l. ap is_dot (get_or-append lib (46 ∷ tail) 0 k l) ∙ ne_eqb _ 46 (h k l))
    (λ l. ap is_dot (get_or-append_seam lib 46 tail 0))

before-dot : (lib tail : List ℕ) → ((i : ℕ) → i < length lib → get_or lib i 0 ≢ 46) → before_first is_dot (lib ++ 46 ∷ tail) ≡ lib
before-dot lib tail h = ap (λ n. take n (lib ++ 46 ∷ tail)) (dot-place lib tail h) ∙ take-append_seam lib (46 ∷ tail)

after-dot : (lib tail : List ℕ) → ((i : ℕ) → i < length lib → get_or lib i 0 ≢ 46) → after_first is_dot (lib ++ 46 ∷ tail) ≡ tail
after-dot lib tail h = ap (λ n. drop (n + 1) (lib ++ 46 ∷ tail)) (dot-place lib tail h) ∙ drop-append-add lib (46 ∷ tail) 1

grammar-parts : (text lib tail : List ℕ) → text ≡ lib ++ 46 ∷ tail → ((i : ℕ) → i < length lib → get_or lib i 0 ≢ 46) → forwarder_of text ≡ export_of lib tail
grammar-parts text lib tail e h =
    forwarder-parts text lib tail (sym (ap (before_first is_dot) e ∙ before-dot lib tail h)) (sym (ap (after_first is_dot) e ∙ after-dot lib tail h))

-- what the grammar says is the value
pub value-of_grammar : (text : List ℕ) (f : Forwarder) → IsForwarder text f → forwarder_of text ≡ Some f
unfolding ordinal_of
value-of_grammar text _ (Named export lib e h l n) = grammar-parts text lib export e h ∙ export-named lib export l n
value-of_grammar text _ (Numbered digits lib e h n l) =
    let t : is_ordinal (without_leading_plus digits) ≡ true = numeral-is_ordinal (without_leading_plus digits) n l in
    let ordinal : ordinal_of digits ≡ Some (digits_value 10 (without_leading_plus digits)) = rw t refl in
    grammar-parts text lib (35 ∷ digits) e h ∙ export-numbered lib (35 ∷ digits) digits refl ∙ ap (option_map (λ n. ByOrdinal n lib)) ordinal

tail-grammar : (text lib tail : List ℕ) (f : Forwarder) → text ≡ lib ++ 46 ∷ tail → ((i : ℕ) → i < length lib → get_or lib i 0 ≢ 46) → export_of lib tail ≡ Some f → IsForwarder text f
unfolding export_of ordinal_of
tail-grammar text lib [] f e h v = cc
tail-grammar text lib (c ∷ rest) f e h v =
    elim (cases_Bool (eqb c 35)) [
      | inl t ↦
          let hash : c ≡ 35 = eqb-true c 35 t in
          elim (cases_Bool (is_ordinal (without_leading_plus rest))) [
            | inl o ↦
                let is : export_of lib (c ∷ rest) ≡ Some (ByOrdinal (digits_value 10 (without_leading_plus rest)) lib) = rw (t, o) refl in
                let same : ByOrdinal (digits_value 10 (without_leading_plus rest)) lib ≡ f = cc in
                let n = is_ordinal-numeral (without_leading_plus rest) o in
                subst (IsForwarder text) same (Numbered rest lib (e ∙ ap (λ x. lib ++ 46 ∷ x ∷ rest) hash) h n.0 n.1)
            | inr o ↦
                let is : export_of lib (c ∷ rest) ≡ None = rw (t, o) refl in
                cc
          ]
      | inr n ↦
          let is : export_of lib (c ∷ rest) ≡ Some (ByName (c ∷ rest) lib) = rw n refl in
          let same : ByName (c ∷ rest) lib ≡ f = cc in
          subst (IsForwarder text) same (Named (c ∷ rest) lib e h (omega arith) (λ z. true≢false (sym (eq-eqb c 35 z) ∙ n)))
    ]

-- and the value is what the grammar says
pub grammar-of_value : (text : List ℕ) (f : Forwarder) → forwarder_of text ≡ Some f → IsForwarder text f
unfolding forwarder_of
grammar-of_value text f v =
    elim (cases_lt (position_or_len is_dot text) (length text)) [
      | inl l ↦
          let dot : get_or text (position_or_len is_dot text) 0 ≡ 46 = eqb-true _ 46 (passes_at_first is_dot text 0 l) in
          let split : text ≡ before_first is_dot text ++ 46 ∷ after_first is_dot text =
          split_at_first is_dot text 0 l ∙ ap (λ x. before_first is_dot text ++ x ∷ after_first is_dot text) dot in
          tail-grammar text (before_first is_dot text) (after_first is_dot text) f split
          (λ i k z.
          let near : i < position_or_len is_dot text = omega (arith, k, length-take (position_or_len is_dot text) text) in
          let fails = fails_before_first is_dot text i 0 near in
          let same = get_or-take (position_or_len is_dot text) text i 0 near in
          true≢false (sym (eq-eqb _ 46 (sym same ∙ z)) ∙ fails)) v
      | inr g ↦
          let none : forwarder_of text ≡ None = forwarder-missing text (drop_all (position_or_len is_dot text + 1) text (omega (arith, g))) in
          cc
    ]

-- so the value and the grammar say the same of each text
pub by_grammar : (text : List ℕ) (f : Forwarder) → (forwarder_of text ≡ Some f) ↔ IsForwarder text f
by_grammar text f = (grammar-of_value text f, value-of_grammar text f)
