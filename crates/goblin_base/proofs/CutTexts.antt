-- A text that is cut behind its first character that reaches past a limit.
use Rattle.std.proofs.Common.{◌≡◌, ◌<◌, ◌≤◌, ℕ, ◌+◌, ◌-◌, List, length, drop, take, take_all, refl, inl, inr, ap, sym, ◌∙◌, arith, slice_range, position, Some, None, nat_lt, length-drop, length-take, Bool, true, false, cond, Option, option_and_then, take-take, get_or-take}
use Rattle.std.specs.{List.position_or_len, Str.is_utf8}
use Rattle.std.proofs.lemmas.Bool.{lt-ltb, ltb-false, ltb-true}
use Rattle.std.proofs.{lemmas.Option.cond_some, lemmas.List.nil_from_length}
use Rattle.goblin_base.specs.Bytes.{IsTextTo, before_nul, begins_character, cut_text, cut_window, stretch, stretch_at, text_at, text_of, text_within}
use Rattle.goblin_base.specs.Footprints.{stretch_footprint, Agree}
use Rattle.goblin_base.specs.{Parts.text_footprint, declared.error.ErrorOf.ErrorOf}
use Rattle.goblin_base.proofs.{Numbers.rest_is_drop, Texts.test_fails}
use Rattle.goblin_base.proofs.{TextEnds.stretch_ends, Inside.AreInside, Inside.stretch-in}
use Rattle.goblin_base.proofs.Parts.{agree-moved_slice, slice-moved-in}
use Rattle.goblin_base.specs.Answers.{FirstFault, IsMemory, IsNoText, IsOffsetFault, IsTextFaultWithin}
use Rattle.goblin_base.proofs.Footprints.{same-stretch_at, same-text_at, same_text}
use Rattle.goblin_base.proofs.Readings.{no_text-not_memory, offset-not_memory, text-not_memory}

-- the place of the first character that begins after n bytes, or the end
pub cut_at : (n : ℕ) (bytes : List ℕ) (i : ℕ)
    → position begins_character (slice_range bytes (n + 1) (length bytes)) ≡ Some i
    → cut_text n bytes ≡ take (n + 1 + i) bytes
cut_at n bytes i is =
    let rest = drop (n + 1) bytes in
    let same : position begins_character rest ≡ Some i =
    sym (ap (position begins_character) (rest_is_drop bytes (n + 1))) ∙ is in
    let found = cond_some (nat_lt (position_or_len begins_character rest) (length rest)) (position_or_len begins_character rest) i same in
    ap (λ (k : ℕ). take (n + 1 + k) bytes) found.1

pub cut_nowhere : (n : ℕ) (bytes : List ℕ)
    → position begins_character (slice_range bytes (n + 1) (length bytes)) ≡ None
    → cut_text n bytes ≡ bytes
cut_nowhere n bytes none =
    let rest = drop (n + 1) bytes in
    let p = position_or_len begins_character rest in
    let same : position begins_character rest ≡ None =
    sym (ap (position begins_character) (rest_is_drop bytes (n + 1))) ∙ none in
    let past = ltb-false p (length rest) (test_fails (nat_lt p (length rest)) p 0 same) in
    take_all (n + 1 + p) bytes (omega (arith, past, length-drop (n + 1) bytes))

-- a text that has no more is whole
pub uncut : (n : ℕ) (bytes : List ℕ) → length bytes ≤ n + 1 → cut_text n bytes ≡ bytes
uncut n bytes few =
    let p = position_or_len begins_character (drop (n + 1) bytes) in
    take_all (n + 1 + p) bytes (omega (arith, few))

pub ruleset cut = (cut_at, cut_nowhere, uncut)

-- the bytes at a place that decide on a cut text
pub window_all : (bytes : List ℕ) (p n : ℕ) → p < length bytes
    → length (slice_range bytes p (length bytes)) ≤ n + 4
    → cut_window bytes p n ≡ slice_range bytes p (length bytes)
window_all bytes p n lt few =
    let rest = drop p bytes in
    let long = length-drop p bytes in
    let all = take_all (length bytes - p) rest (omega (arith, long)) in
    let short : length rest ≤ n + 4 = omega (arith, few, ap length all) in
    let width : p + n + 4 - p ≡ n + 4 = omega arith in
    ap (λ (k : ℕ). take k rest) width ∙ take_all (n + 4) rest short ∙ sym all

pub window_part : (bytes : List ℕ) (p n : ℕ)
    → cut_window bytes p n ≡ slice_range (slice_range bytes p (length bytes)) 0 (n + 4)
window_part bytes p n =
    let width : p + n + 4 - p ≡ n + 4 - 0 = omega arith in
    ap (λ (k : ℕ). take k (drop p bytes)) width
    ∙ sym (ap (λ (xs : List ℕ). take (n + 4 - 0) xs) (rest_is_drop bytes p))

pub window_none : (bytes : List ℕ) (p n : ℕ) → length bytes ≤ p
    → cut_window bytes p n ≡ slice_range bytes 0 0
window_none bytes p n past =
    let width : p + n + 4 - p ≡ n + 4 = omega arith in
    nil_from_length (cut_window bytes p n)
    (omega (arith, past, length-take (p + n + 4 - p) (drop p bytes), length-drop p bytes))

pub ruleset window = (window_all, window_part, window_none)

-- ---- a text up to a limit

pub same-text_within : (longest : Option ℕ) (p : ℕ) (a b : List ℕ)
    → Agree (text_footprint longest a p) a b → text_within longest a p ≡ text_within longest b p
same-text_within None p a b agree = same-text_at a b p agree
same-text_within (Some n) p a b agree =
    let first = cut_window a p n in
    let again = cut_window b p n in
    ap (option_and_then (λ s. text_of (cut_text n s)))
    (same-stretch_at first again 0
    (agree-moved_slice p (p + n + 4) (stretch_footprint first 0) a b agree))

pub text_within-in : (longest : Option ℕ) (p : ℕ) (bytes : List ℕ)
    → AreInside bytes (text_footprint longest bytes p)
text_within-in None p bytes = stretch-in bytes p
text_within-in (Some n) p bytes =
    let window = cut_window bytes p n in
    slice-moved-in p (p + n + 4) bytes (stretch_footprint window 0) (stretch-in window 0)

front-not_memory : (n : ℕ) (found : Option (List ℕ)) (bytes : List ℕ) (e : ErrorOf)
    → FirstFault found (IsOffsetFault bytes 0) (λ s. IsNoText (cut_text n s)) e → ¬ IsMemory e
front-not_memory n None bytes e h = offset-not_memory bytes 0 e h
front-not_memory n (Some s) bytes e h = no_text-not_memory (cut_text n s) e h

pub text_within-not_memory : (longest : Option ℕ) (p : ℕ) (bytes : List ℕ) (e : ErrorOf)
    → IsTextFaultWithin longest bytes p e → ¬ IsMemory e
text_within-not_memory None p bytes e h = text-not_memory bytes p e h
text_within-not_memory (Some n) p bytes e h =
    let window = cut_window bytes p n in
    front-not_memory n (stretch_at window 0) window e h

-- ---- a text that is no longer than the limit is whole

cut-short : (n : ℕ) (text : List ℕ) → length (cut_text n text) ≤ n → length text ≤ n
cut-short n text few =
    let k = n + 1 + position_or_len begins_character (drop (n + 1) text) in
    omega (arith, few, length-take k text)

-- the bytes before a NUL are the same in a longer list, where there is a NUL or no more bytes
pub front-same : (m : ℕ) (bytes : List ℕ) → length (before_nul (take m bytes)) < m
    → before_nul (take m bytes) ≡ before_nul bytes
front-same m bytes few =
    let front = take m bytes in
    let t = before_nul front in
    let long = length-take m bytes in
    let h = stretch_ends front 0 (omega arith) in
    let all : 0 + length t - 0 ≡ length t = omega arith in
    let own : IsTextTo bytes 0 (length bytes) t = record {
      is = h.is ∙ rw all (take-take (length t) m bytes (omega (arith, few)));
      inside = omega (arith, h.inside, long);
      free = h.free;
      ends = elim h.ends [
        | inl end ↦ inl (omega (arith, end, long, few))
        | inr nul ↦
            inr (
              omega (arith, nul.0, long),
              sym (get_or-take m bytes (0 + length t) 0 (omega (arith, few))) ∙ nul.1,
            )
      ];
    } in
    same_text bytes bytes 0 (length bytes) t (before_nul bytes) own
    (stretch_ends bytes 0 (omega arith)) refl (omega arith) (λ i le below. refl)

-- the bytes before a NUL are the same in a shorter list that has one more byte, or all
pub front-kept : (m : ℕ) (bytes : List ℕ) → length (before_nul bytes) < m
    → before_nul (take m bytes) ≡ before_nul bytes
front-kept m bytes few =
    let front = take m bytes in
    let t = before_nul bytes in
    let long = length-take m bytes in
    let h = stretch_ends bytes 0 (omega arith) in
    let all : 0 + length t - 0 ≡ length t = omega arith in
    let own : IsTextTo front 0 (length front) t = record {
      is = h.is ∙ rw all (sym (take-take (length t) m bytes (omega (arith, few))));
      inside = omega (arith, h.inside, long, few);
      free = h.free;
      ends = elim h.ends [
        | inl end ↦ inl (omega (arith, end, long, few))
        | inr nul ↦
            inr (
              omega (arith, nul.0, long, few),
              get_or-take m bytes (0 + length t) 0 (omega (arith, few)) ∙ nul.1,
            )
      ];
    } in
    same_text front front 0 (length front) (before_nul front) t
    (stretch_ends front 0 (omega arith)) own refl (omega arith) (λ i le below. refl)

pub short_is_whole : (n : ℕ) (bytes : List ℕ) (p : ℕ) (s : List ℕ)
    → text_within (Some n) bytes p ≡ Some s → length s ≤ n → text_at bytes p ≡ Some s
short_is_whole n bytes p s is few =
    let window = cut_window bytes p n in
    let width : p + n + 4 - p ≡ n + 4 = omega arith in
    let front : window ≡ take (n + 4) (drop p bytes) = ap (λ (k : ℕ). take k (drop p bytes)) width in
    let there = some_by (nat_lt 0 (length window)) (stretch window 0) (λ t. text_of (cut_text n t)) s is in
    let utf8 = cond_some (is_utf8 (cut_text n (before_nul window))) (cut_text n (before_nul window)) s there.1 in
    let short : length (before_nul window) ≤ n =
    cut-short n (before_nul window) (omega (arith, few, ap length utf8.1)) in
    let whole : s ≡ before_nul window =
    sym utf8.1 ∙ uncut n (before_nul window) (omega (arith, short)) in
    let same : before_nul window ≡ stretch bytes p =
    ap before_nul front
    ∙ front-same (n + 4) (drop p bytes)
    (omega (arith, short, ap (λ (w : List ℕ). length (before_nul w)) front)) in
    let lt : nat_lt p (length bytes) ≡ true =
    lt-ltb p (length bytes)
    (omega (
      arith,
      ltb-true 0 (length window) there.0,
      ap length front,
      length-take (n + 4) (drop p bytes),
      length-drop p bytes,
    )) in
    let text : is_utf8 (stretch bytes p) ≡ true =
    sym (ap is_utf8 (uncut n (before_nul window) (omega (arith, short)) ∙ same)) ∙ utf8.0 in
    rw (lt, text) (ap Some (sym (whole ∙ same)))
  where
    some_by : (test : Bool) (x : List ℕ) (f : List ℕ → Option (List ℕ)) (y : List ℕ)
        → option_and_then f (cond test (Some x) None) ≡ Some y → (test ≡ true) × (f x ≡ Some y)
    some_by true x f y e = (refl, e)
    some_by false x f y e = absurd cc
