-- Names that are cut at a limit.
use Rattle.std.proofs.Common.{◌≡◌, ◌<◌, ◌≤◌, ◌∙◌, ◌-◌, ◌==◌, ℕ, zero, suc, ◌+◌, Bool, true, false, cond, not, inl, inr, List, length, drop, take, take_all, refl, ap, sym, arith, Some, None, nat_lt, option_and_then, slice_index, length-take, take-take, get_or-take}
use Rattle.std.specs.{List.position_or_len, Str.is_utf8}
use Rattle.std.proofs.lemmas.Bool.{cases_Bool, lt-ltb, ltb-false, ltb-true}
use Rattle.std.proofs.lemmas.Option.{cond_some}
use Rattle.goblin_base.specs.Bytes.{before_nul, begins_character, cut_text, cut_window, stretch, text_of}
use Rattle.goblin_pe_c_headers.specs.Names.{NamesOfWhole, cut_end, cut_name}
use Rattle.goblin_pe_c_headers.proofs.Named.{front-passed}

-- the last place before a limit
pub end-here : (text : List ℕ) (n : ℕ) → begins_character (slice_index text n) ≡ true → cut_end text n ≡ n
unfolding cut_end
end-here text zero begins = refl
end-here text (suc n) begins = rw begins refl

pub end-before : (text : List ℕ) (n : ℕ) → 0 < n → begins_character (slice_index text n) ≡ false → cut_end text n ≡ cut_end text (n - 1)
unfolding cut_end
end-before text zero some goes_on = absurd (omega (arith, some))
end-before text (suc n) some goes_on =
    let less : suc n - 1 ≡ n = omega arith in
    rw (less, goes_on) refl

-- a text is cut where one that is the same up to the limit is
end-same : (a b : List ℕ) (n : ℕ) → ((i : ℕ) → i ≤ n → slice_index a i ≡ slice_index b i) → cut_end a n ≡ cut_end b n
unfolding cut_end
end-same a b zero same = refl
end-same a b (suc n) same = rw (same (suc n) (omega arith), end-same a b n (λ i le. same i (omega (arith, le)))) refl

end-within : (a : List ℕ) (n : ℕ) → cut_end a n ≤ n
unfolding cut_end
end-within a zero = omega arith
end-within a (suc n) = by_begin (begins_character (slice_index a (suc n))) (end-within a n)
  where
    by_begin : (begins : Bool) → cut_end a n ≤ n → cond begins (suc n) (cut_end a n) ≤ suc n
    by_begin true le = omega arith
    by_begin false le = omega (arith, le)

-- the front of a text has its name, if it passes the limit
of-front : (n m : ℕ) (text : List ℕ) → n < m → cut_name (Some n) (take m text) ≡ cut_name (Some n) text
of-front n m text more =
    elim (cases_Bool (nat_lt n (length text))) [
      | inl long ↦
          let lt = ltb-true n (length text) long in
          let front : nat_lt n (length (take m text)) ≡ true = lt-ltb n (length (take m text)) (omega (arith, more, lt, length-take m text)) in
          let at = end-same (take m text) text n (λ i le. get_or-take m text i 0 (omega (arith, le, more))) in
          rw (long, front, at) (ap (λ (xs : List ℕ). (xs, true)) (take-take (cut_end text n) m text (omega (arith, more, end-within text n))))
      | inr short ↦ rw (take_all m text (omega (arith, more, ltb-false n (length text) short))) refl
    ]

pub names_of_whole : NamesOfWhole
names_of_whole None p bytes text is = whole (nat_lt p (length bytes)) is
  where
    whole : (there : Bool) → cond there (text_of (stretch bytes p)) None ≡ Some text → cut_name None text ≡ cut_name None (stretch bytes p)
    whole true e = ap (λ (xs : List ℕ). (xs, false)) (sym ((cond_some (is_utf8 (stretch bytes p)) (stretch bytes p) text e).1))
    whole false e = absurd (cc e)
names_of_whole (Some n) p bytes text is =
    let window = cut_window bytes p n in
    let width : p + n + 4 - p ≡ n + 4 = omega arith in
    let front : window ≡ take (n + 4) (drop p bytes) = ap (λ (k : ℕ). take k (drop p bytes)) width in
    let k = n + 1 + position_or_len begins_character (drop (n + 1) (before_nul window)) in
    let read : take k (before_nul window) ≡ text = there (nat_lt 0 (length window)) is in
    let all : before_nul window ≡ take (n + 4) (stretch bytes p) = ap before_nul front ∙ front-passed (λ b. not (b == 0)) (n + 4) (drop p bytes) in
    ap (cut_name (Some n)) (sym read)
    ∙ of-front n k (before_nul window) (omega arith)
    ∙ ap (cut_name (Some n)) all
    ∙ of-front n (n + 4) (stretch bytes p) (omega arith)
  where
    there : (some : Bool) → option_and_then (λ s. text_of (cut_text n s)) (cond some (Some (before_nul (cut_window bytes p n))) None) ≡ Some text
        → cut_text n (before_nul (cut_window bytes p n)) ≡ text
    there true e = (cond_some (is_utf8 (cut_text n (before_nul (cut_window bytes p n)))) (cut_text n (before_nul (cut_window bytes p n))) text e).1
    there false e = absurd (cc e)
