-- What is read of a file up to an end, and of the zeros behind it.
use Rattle.std.proofs.Common.{◌≡◌, ◌<◌, ◌≤◌, ◌+◌, ◌-◌, ◌*◌, ◌/◌, ℕ, zero, suc, min, max, Bool, true, false, cond, not, nat_lt, List, [], ◌∷◌, ◌++◌, length, drop, take, Option, Some, None, refl, sym, ap, subst, ◌∙◌, inl, inr, arith, ◌==◌, replicate, slice_index, slice_range, option_and_then, option_map, Result, Ok, Err, Bor}
use Rattle.std.specs.{List.position_or_len, Str.is_utf8}
use Rattle.std.proofs.lemmas.Bool.{cases_lt, lt-ltb, le-ltb, ltb-false, ltb-true}
use Rattle.std.proofs.lemmas.List.{append-nil, drop-append-le, drop-replicate, get_or-append_right, get_or-replicate, get_or-take, get_or_append_left, get_or_past, length-append, length-drop, length-replicate, length-take, nil_from_length}
use Rattle.std.proofs.lemmas.{Grind.same_number_lists, Str.IsUtf8-nil, Str.is_utf8-from_IsUtf8}
use Rattle.std.proofs.Math.{Nat.mul-le-mul_left, Seq.drop-append-add}
use Rattle.std.proofs.lemmas.List.Elements.{All-cons, All-head, All-nil, All-tail}
use Rattle.goblin_base.specs.{declared.error.ErrorOf.ErrorOf, Reading.IsInFile}
use Rattle.goblin_base.specs.Answers.{Malformed, BadMagic, BufferTooShort, Read, Memory, BadOffset, TooBig, BadInput}
use Rattle.goblin_base.specs.Answers.{Answers, FirstFault, IsNoText, IsOffsetFault, IsTextFault, IsTextFaultWithin}
use Rattle.goblin_base.specs.Bytes.{before_nul, begins_character, cut_text, cut_window, replaced, slice_at, stretch, stretch_at, text_of, text_within}
use Rattle.goblin_base.specs.Footprints.{Agree, Covers, Range, positions, stretch_footprint}
use Rattle.goblin_base.specs.Parts.{MappedEnd, in_memory, positions_before, positions_in_file, stored}
use Rattle.goblin_base.proofs.{Inside.AreInside, Inside.if-in}
use Rattle.goblin_base.proofs.{Numbers.slice_at-inside, Numbers.slice_at-past, Parts.byte_of_slice}

-- ---- what a reading up to an end reaches

covers-before : (end i : ℕ) (ranges : List Range) → Covers ranges i → i < end
    → Covers (positions_before end ranges) i
covers-before end i [] h lt = absurd h
covers-before end i (range ∷ ranges) (inl h) lt =
    let some : nat_lt range.0 end ≡ true = lt-ltb range.0 end (omega (arith, h.0, lt)) in
    rw some (inl (h.0, omega (arith, h.1, lt)))
covers-before end i (range ∷ ranges) (inr h) lt =
    kept (nat_lt range.0 end) (range.0, min range.1 end) (positions_before end ranges) i
    (covers-before end i ranges h lt)
  where
    kept : (test : Bool) (first : Range) (later : List Range) (i : ℕ) → Covers later i
        → Covers (cond test (first ∷ later) later) i
    kept true first later i h = inr h
    kept false first later i h = h

-- how many zeros there are
count-zeros : (n : ℕ) → length (replicate {A = ℕ} n 0) ≡ n
count-zeros n = length-replicate {A = ℕ} n 0

-- positions up to a place, before an end
pub before-positions : (stop begin end : ℕ) → positions_before stop (positions begin end) ≡ positions begin (min end stop)
unfolding positions
before-positions stop begin end =
    elim (cases_lt begin end) [
      | inl some ↦
          let there : nat_lt begin end ≡ true = lt-ltb begin end some in
          elim (cases_lt begin stop) [
            | inl before ↦
                let inside : nat_lt begin stop ≡ true = lt-ltb begin stop before in
                let both : nat_lt begin (min end stop) ≡ true = lt-ltb begin (min end stop) (omega (arith, some, before)) in
                rw (there, inside, both) refl
            | inr past ↦
                let outside : nat_lt begin stop ≡ false = le-ltb begin stop past in
                let neither : nat_lt begin (min end stop) ≡ false = le-ltb begin (min end stop) (omega (arith, past)) in
                rw (there, outside, neither) refl
          ]
      | inr none ↦
          let empty : nat_lt begin end ≡ false = le-ltb begin end none in
          let neither : nat_lt begin (min end stop) ≡ false = le-ltb begin (min end stop) (omega (arith, none)) in
          rw (empty, neither) refl
    ]

zeros_past : (xs : List ℕ) (n i : ℕ) → length xs ≤ i → slice_index (xs ++ replicate n 0) i ≡ 0
zeros_past xs n i past =
    get_or-append_right xs (replicate n 0) (length xs) i 0 refl past
    ∙ elim (cases_lt (i - length xs) n) [
      | inl lt ↦ get_or-replicate n (i - length xs) 0 0 lt
      | inr over ↦
          get_or_past (replicate n 0) (i - length xs) 0 (omega (arith, over, count-zeros n))
    ]

-- files that agree on positions before an end agree on all positions in what is read
by_length : (test : Bool) (e : MappedEnd) (ranges : List Range) (a b : List ℕ)
    → nat_lt e.last (length a) ≡ test → Agree (positions_before (e.last + 1) ranges) a b
    → Agree ranges (cond test (take (e.last + 1) a ++ replicate e.zeros 0) a)
    (cond test (take (e.last + 1) b ++ replicate e.zeros 0) b)
by_length true e ranges a b is h =
    let fits : e.last < length a = ltb-true e.last (length a) is in
    let long : (xs : List ℕ) → e.last < length xs → length (take (e.last + 1) xs) ≡ e.last + 1 =
    λ xs le. omega (arith, length-take (e.last + 1) xs, le) in
    let in_a = long a fits in
    let in_b = long b (omega (arith, fits, h.same_length)) in
    record {
      same_length = omega (
        arith,
        length-append (take (e.last + 1) a) (replicate e.zeros 0),
        length-append (take (e.last + 1) b) (replicate e.zeros 0),
        in_a,
        in_b,
      );
      same_bytes = λ i c. elim (cases_lt i (e.last + 1)) [
        | inl lt ↦
            get_or_append_left (take (e.last + 1) a) (replicate e.zeros 0) 0 i (omega (arith, lt, in_a))
            ∙ get_or-take (e.last + 1) a i 0 lt ∙ h.same_bytes i (covers-before (e.last + 1) i ranges c lt)
            ∙ sym (get_or-take (e.last + 1) b i 0 lt)
            ∙ sym (get_or_append_left (take (e.last + 1) b) (replicate e.zeros 0) 0 i (omega (arith, lt, in_b)))
        | inr past ↦
            zeros_past (take (e.last + 1) a) e.zeros i (omega (arith, past, in_a))
            ∙ sym (zeros_past (take (e.last + 1) b) e.zeros i (omega (arith, past, in_b)))
      ];
    }
by_length false e ranges a b is h =
    let short : length a ≤ e.last = ltb-false e.last (length a) is in
    record {
      same_length = h.same_length;
      same_bytes = λ i c. elim (cases_lt i (e.last + 1)) [
        | inl lt ↦ h.same_bytes i (covers-before (e.last + 1) i ranges c lt)
        | inr past ↦
            get_or_past a i 0 (omega (arith, short, past))
            ∙ sym (get_or_past b i 0 (omega (arith, short, past, h.same_length)))
      ];
    }

pub agree-in_memory : (end : Option MappedEnd) (ranges : List Range) (a b : List ℕ)
    → Agree (positions_in_file end ranges) a b
    → Agree ranges (in_memory end a) (in_memory end b)
agree-in_memory None ranges a b h = h
agree-in_memory (Some e) ranges a b h =
    let whole = by_length (nat_lt e.last (length a)) e ranges a b refl h in
    subst (λ (n : ℕ). Agree ranges (in_memory (Some e) a) (cond (nat_lt e.last n) (take (e.last + 1) b ++ replicate e.zeros 0) b))
    h.same_length whole

-- what is before an end lies in the file, if what is read does not go on behind the end otherwise
before-in : (end : ℕ) (part bytes : List ℕ)
    → ((n : ℕ) → n ≤ length part → min n end ≤ length bytes)
    → (ranges : List Range) → AreInside part ranges → AreInside bytes (positions_before end ranges)
before-in end part bytes fits [] h = All-nil (IsInFile bytes)
before-in end part bytes fits (range ∷ ranges) h =
    let own = All-head (IsInFile part) range ranges h in
    let later = before-in end part bytes fits ranges (All-tail (IsInFile part) range ranges h) in
    if-in bytes (nat_lt range.0 end) ((range.0, min range.1 end) ∷ positions_before end ranges) (positions_before end ranges)
    (λ test. All-cons (IsInFile bytes) (range.0, min range.1 end) (positions_before end ranges)
    (omega (arith, own.0, ltb-true range.0 end test), fits range.1 own.1) later)
    later

inside_by : (test : Bool) (e : MappedEnd) (bytes : List ℕ) (ranges : List Range)
    → nat_lt e.last (length bytes) ≡ test
    → AreInside (cond test (take (e.last + 1) bytes ++ replicate e.zeros 0) bytes) ranges
    → AreInside bytes (positions_before (e.last + 1) ranges)
inside_by true e bytes ranges is h =
    let fits : e.last < length bytes = ltb-true e.last (length bytes) is in
    before-in (e.last + 1) (take (e.last + 1) bytes ++ replicate e.zeros 0) bytes (λ n le. omega (arith, fits))
    ranges h
inside_by false e bytes ranges is h =
    before-in (e.last + 1) bytes bytes (λ n le. omega (arith, le)) ranges h

pub in_memory-in : (end : Option MappedEnd) (bytes : List ℕ) (ranges : List Range)
    → AreInside (in_memory end bytes) ranges → AreInside bytes (positions_in_file end ranges)
in_memory-in None bytes ranges h = h
in_memory-in (Some e) bytes ranges h =
    inside_by (nat_lt e.last (length bytes)) e bytes ranges refl h

-- ---- the part of a file

pub part_inside : (e : MappedEnd) (bytes : List ℕ) → e.last < length bytes
    → in_memory (Some e) bytes ≡ take (e.last + 1) bytes ++ replicate e.zeros 0
part_inside e bytes lt = rw (lt-ltb e.last (length bytes) lt) refl

pub part_past : (e : MappedEnd) (bytes : List ℕ) → length bytes ≤ e.last → in_memory (Some e) bytes ≡ bytes
part_past e bytes le =
    let test : nat_lt e.last (length bytes) ≡ false = le-ltb e.last (length bytes) le in
    rw test refl

-- what has bytes is of a file that has some
pub bytes_there : (end : Option MappedEnd) (bytes : List ℕ) → 0 < length (in_memory end bytes) → 0 < length bytes
bytes_there None bytes some = some
bytes_there (Some e) bytes some =
    elim (cases_lt 0 (length bytes)) [
      | inl lt ↦ lt
      | inr none ↦ omega (arith, some, ap length (part_past e bytes (omega (arith, none))))
    ]

pub no_zeros : (xs : List ℕ) → xs ++ replicate 0 0 ≡ xs
no_zeros xs = append-nil xs

pub ruleset parts = (part_inside, part_past, no_zeros)

-- ---- slices

-- the bytes and zeros between two places are those between them in the stored bytes, and zeros
slice-zeros : (xs : List ℕ) (n begin end first stop z : ℕ) → begin ≤ end → end ≤ length xs + n
    → first ≡ min begin (length xs) → stop ≡ min end (length xs) → z + (stop - first) ≡ end - begin
    → slice_range xs first stop ++ replicate z 0 ≡ slice_range (xs ++ replicate n 0) begin end
slice-zeros xs n begin end first stop z order fits low high all =
    let bytes = xs ++ replicate n 0 in
    let own = slice_range xs first stop in
    let many : length bytes ≡ length xs + n =
    omega (arith, length-append xs (replicate n 0), count-zeros n) in
    let few : length own ≡ stop - first =
    omega (arith, length-take (stop - first) (drop first xs), length-drop first xs, high) in
    let right : length (slice_range bytes begin end) ≡ end - begin =
    omega (arith, length-take (end - begin) (drop begin bytes), length-drop begin bytes, many, fits) in
    let left : length (own ++ replicate z 0) ≡ end - begin =
    omega (arith, length-append own (replicate z 0), count-zeros z, few, all) in
    same_number_lists (own ++ replicate z 0) (slice_range bytes begin end) (left ∙ sym right)
    (λ i lt.
    let here : i < end - begin = omega (arith, lt, left) in
    let theirs = byte_of_slice bytes begin end i here in
    elim (cases_lt i (length own)) [
      | inl in_own ↦
          let place : first ≡ begin = omega (arith, in_own, few, low, high) in
          get_or_append_left own (replicate z 0) 0 i in_own
          ∙ byte_of_slice xs first stop i (omega (arith, in_own, few))
          ∙ ap (λ (k : ℕ). slice_index xs (k + i)) place
          ∙ sym (get_or_append_left xs (replicate n 0) 0 (begin + i) (omega (arith, in_own, few, low, high)))
          ∙ sym theirs
      | inr over ↦
          zeros_past own z i over
          ∙ sym (zeros_past xs n (begin + i) (omega (arith, over, few, low, high, here, order))) ∙ sym theirs
    ])

module _ (xs : List ℕ) (n begin end : ℕ) (order : begin ≤ end)
    (fits : end ≤ length (xs ++ replicate n 0)) where
  room : end ≤ length xs + n
  room = omega (arith, fits, length-append xs (replicate n 0), count-zeros n)

  pub slice_stored : end ≤ length xs
      → slice_range xs begin end ++ replicate 0 0 ≡ slice_range (xs ++ replicate n 0) begin end
  slice_stored le =
      slice-zeros xs n begin end begin end 0 order room (omega (arith, le, order)) (omega (arith, le))
      (omega arith)

  pub slice_across : (first last : ℕ) → length xs < end → first ≡ min begin (length xs)
      → last ≡ max begin (length xs)
      → slice_range xs first (length xs) ++ replicate (end - last) 0
      ≡ slice_range (xs ++ replicate n 0) begin end
  slice_across first last lt low high =
      slice-zeros xs n begin end first (length xs) (end - last) order room low (omega (arith, lt))
      (omega (arith, lt, low, high, order))

pub ruleset slice_is = (slice_stored, slice_across)

pub array_padded : (xs : List ℕ) (n p size begin end : ℕ) → p < length (xs ++ replicate n 0)
    → p + size ≤ length (xs ++ replicate n 0) → begin ≡ min p (length xs)
    → end ≡ min (p + size) (length xs)
    → slice_at (xs ++ replicate n 0) p size
    ≡ Some (replaced (replicate size 0) 0 (slice_range xs begin end))
array_padded xs n p size begin end start fits low high =
    let own = slice_range xs begin end in
    let few : length own ≡ end - begin =
    omega (arith, length-take (end - begin) (drop begin xs), length-drop begin xs, high) in
    let width : p + size - p ≡ size = omega arith in
    let rest : drop (0 + length own) (replicate {A = ℕ} size 0) ≡ replicate {A = ℕ} (size - (0 + length own)) 0 =
    drop-replicate {X = ℕ} (0 + length own) size 0 in
    let same = slice-zeros xs n p (p + size) begin end (size - (0 + length own)) (omega arith)
    (omega (arith, fits, length-append xs (replicate n 0), count-zeros n)) low high
    (omega (arith, few, low, high, width)) in
    slice_at-inside (xs ++ replicate n 0) p size start fits
    ∙ ap (λ (ys : List ℕ). Some ys) (sym same ∙ ap (λ (ys : List ℕ). own ++ ys) (sym rest))

pub array_stored : (xs : List ℕ) (n p size : ℕ) → p < length xs → size ≤ length xs - p
    → slice_at (xs ++ replicate n 0) p size ≡ Some (slice_range xs p (p + size))
array_stored xs n p size start fits =
    let all : length (xs ++ replicate n 0) ≡ length xs + n =
    omega (arith, length-append xs (replicate n 0), count-zeros n) in
    let same = slice-zeros xs n p (p + size) p (p + size) 0 (omega arith) (omega (arith, start, fits))
    (omega (arith, start)) (omega (arith, start, fits)) (omega arith) in
    slice_at-inside (xs ++ replicate n 0) p size (omega (arith, start, all)) (omega (arith, start, fits, all))
    ∙ ap (λ (ys : List ℕ). Some ys) (sym same ∙ append-nil (slice_range xs p (p + size)))

-- ---- texts

by_head : (test : Bool) (i j x : ℕ) (more xs : List ℕ) → take i more ≡ take j xs
    → take (cond (not test) (1 + i) 0) (x ∷ more) ≡ take (cond (not test) (1 + j) 0) (x ∷ xs)
by_head true i j x more xs same = refl
by_head false i j x more xs same =
    let left : 1 + i ≡ suc i = omega arith in
    let right : 1 + j ≡ suc j = omega arith in
    rw (left, right) (ap (λ (ys : List ℕ). x ∷ ys) same)

abbrev at_nul : List ℕ → ℕ
at_nul xs = position_or_len (λ b. b == 0) xs

-- zeros behind bytes change nothing in the run before a NUL
run-zeros : (n : ℕ) (xs : List ℕ) → before_nul (xs ++ replicate n 0) ≡ before_nul xs
run-zeros zero [] = refl
run-zeros (suc n) [] = refl
run-zeros n (x ∷ xs) =
    by_head (x == 0) (at_nul (xs ++ replicate n 0)) (at_nul xs) x (xs ++ replicate n 0) xs (run-zeros n xs)

-- nor in the front of the bytes
run-front : (m n : ℕ) (xs : List ℕ) → before_nul (take m (xs ++ replicate n 0)) ≡ before_nul (take m xs)
run-front zero n xs = refl
run-front (suc m) zero [] = refl
run-front (suc m) (suc n) [] = refl
run-front (suc m) n (x ∷ xs) =
    by_head (x == 0) (at_nul (take m (xs ++ replicate n 0))) (at_nul (take m xs)) x (take m (xs ++ replicate n 0)) (take m xs)
    (run-front m n xs)

-- no bytes are a text
empty_text : text_of [] ≡ Some []
empty_text =
    let utf8 : is_utf8 [] ≡ true = is_utf8-from_IsUtf8 [] IsUtf8-nil in
    rw utf8 refl

empty_cut : (most : ℕ) → text_of (cut_text most []) ≡ Some []
empty_cut most =
    let i = position_or_len begins_character (drop (most + 1) []) in
    ap text_of (nil_from_length (cut_text most []) (omega (arith, length-take {A = ℕ} (most + 1 + i) []))) ∙ empty_text

nothing_cut : (most : ℕ) → option_and_then (λ s. text_of (cut_text most s)) (Some (before_nul (take (most + 4) []))) ≡ Some []
nothing_cut most =
    let front : take {A = ℕ} (most + 4) [] ≡ [] = nil_from_length (take {A = ℕ} (most + 4) []) (omega (arith, length-take {A = ℕ} (most + 4) [])) in
    rw front (empty_cut most)

-- what is there if a test holds
there_if : {A : Type 0} (test : Bool) (x : A) → test ≡ true → cond test (Some x) None ≡ Some x
there_if true x is = refl
there_if false x is = absurd cc

fault_by : {A : Type 0} (first again : Option A) (x : A) (C D : ErrorOf → Type 0) (Later : A → ErrorOf → Type 0)
    (e : ErrorOf) → first ≡ Some x → again ≡ Some x → FirstFault first C Later e
    → FirstFault again D Later e
fault_by first again x C D Later e is same h =
    let own : Later x e = subst (λ o. FirstFault o C Later e) is h in
    subst (λ o. FirstFault o D Later e) (sym same) own

zeros_left : (xs : List ℕ) (n p : ℕ) → length xs ≤ p → drop p (xs ++ replicate n 0) ≡ replicate (n - (p - length xs)) 0
zeros_left xs n p past =
    let split : p ≡ length xs + (p - length xs) = omega (arith, past) in
    ap (λ (k : ℕ). drop k (xs ++ replicate n 0)) split
    ∙ drop-append-add xs (replicate n 0) (p - length xs) ∙ drop-replicate {X = ℕ} (p - length xs) n 0

-- the stretch at the front of a window of bytes
first_of : (ys : List ℕ) (p most : ℕ) → p < length ys → stretch_at (cut_window ys p most) 0 ≡ Some (before_nul (take (most + 4) (drop p ys)))
first_of ys p most lt =
    let width : p + most + 4 - p ≡ most + 4 = omega arith in
    let front = take (most + 4) (drop p ys) in
    ap (λ (k : ℕ). stretch_at (take k (drop p ys)) 0) width
    ∙ there_if (nat_lt 0 (length front)) (before_nul front)
    (lt-ltb 0 (length front) (omega (arith, lt, length-take (most + 4) (drop p ys), length-drop p ys)))

module _ (xs : List ℕ) (n p : ℕ) where
  abbrev pub padded : List ℕ
  padded = xs ++ replicate n 0

  long : length padded ≡ length xs + n
  long = omega (arith, length-append xs (replicate n 0), count-zeros n)

  module _ (lt : p < length xs) where
    inside : p < length padded
    inside = omega (arith, lt, long)

    same_stretch : stretch padded p ≡ stretch xs p
    same_stretch =
        ap before_nul (drop-append-le p xs (replicate n 0) (omega (arith, lt))) ∙ run-zeros n (drop p xs)

    fault_none : (e : ErrorOf) → IsTextFault xs p e → IsTextFault padded p e
    fault_none (Read BadOffset) h = absurd (omega (arith, h, lt))
    fault_none (Read BadInput) h = (inside, ap is_utf8 same_stretch ∙ h.1)
    fault_none (Read TooBig) h = absurd h
    fault_none (Malformed cause) h = absurd h
    fault_none (BadMagic magic) h = absurd h
    fault_none (BufferTooShort count what) h = absurd h
    fault_none (Memory e) h = absurd h

    first_same : (most : ℕ) → stretch_at (cut_window padded p most) 0 ≡ Some (before_nul (take (most + 4) (drop p xs)))
    first_same most =
        first_of padded p most inside
        ∙ ap (λ (ys : List ℕ). Some (before_nul (take (most + 4) ys))) (drop-append-le p xs (replicate n 0) (omega (arith, lt)))
        ∙ ap (λ (s : List ℕ). Some s) (run-front (most + 4) n (drop p xs))

    -- the text that begins in stored bytes is the same with zeros behind them
    pub within_stored : (longest : Option ℕ) → text_within longest padded p ≡ text_within longest xs p
    within_stored None =
        let here : nat_lt p (length xs) ≡ true = lt-ltb p (length xs) lt in
        let there : nat_lt p (length padded) ≡ true = lt-ltb p (length padded) inside in
        rw (here, there, same_stretch) refl
    within_stored (Some most) =
        ap (option_and_then (λ s. text_of (cut_text most s))) (first_same most ∙ sym (first_of xs p most lt))

    fault_same : (longest : Option ℕ) (e : ErrorOf) → IsTextFaultWithin longest xs p e
        → IsTextFaultWithin longest padded p e
    fault_same None e h = fault_none e h
    fault_same (Some most) e h =
        fault_by (stretch_at (cut_window xs p most) 0) (stretch_at (cut_window padded p most) 0)
        (before_nul (take (most + 4) (drop p xs))) (IsOffsetFault (cut_window xs p most) 0) (IsOffsetFault (cut_window padded p most) 0)
        (λ s. IsNoText (cut_text most s)) e (first_of xs p most lt) (first_same most) h

    -- and so is the answer
    pub answers_same : (longest : Option ℕ) (r : Result (Bor (List ℕ)) ErrorOf)
        → Answers (λ s. s.now) r (text_within longest xs p) (IsTextFaultWithin longest xs p)
        → Answers (λ s. s.now) r (text_within longest padded p) (IsTextFaultWithin longest padded p)
    answers_same longest (Ok s) h = within_stored longest ∙ h
    answers_same longest (Err e) h = (within_stored longest ∙ h.0, fault_same longest e h.1)

  -- a text that begins in the zeros is empty
  module _ (past : length xs ≤ p) (lt : p < length padded) where
    pub text_in_zeros : (longest : Option ℕ) → text_within longest padded p ≡ Some []
    text_in_zeros None =
        let there : nat_lt p (length padded) ≡ true = lt-ltb p (length padded) lt in
        let none : stretch padded p ≡ [] =
        ap before_nul (zeros_left xs n p past) ∙ run-zeros (n - (p - length xs)) [] in
        rw (there, none) empty_text
    text_in_zeros (Some most) =
        ap (option_and_then (λ s. text_of (cut_text most s)))
        (first_of padded p most lt
        ∙ ap (λ (ys : List ℕ). Some (before_nul (take (most + 4) ys))) (zeros_left xs n p past)
        ∙ ap (λ (s : List ℕ). Some s) (run-front (most + 4) (n - (p - length xs)) []))
        ∙ nothing_cut most

  -- and past them there is none
  module _ (past : length padded ≤ p) where
    empty : (most : ℕ) → cut_window padded p most ≡ []
    empty most =
        nil_from_length (cut_window padded p most)
        (omega (arith, past, length-take (p + most + 4 - p) (drop p padded), length-drop p padded))

    pub no_text_past : (longest : Option ℕ) → text_within longest padded p ≡ None
    no_text_past None =
        let out : nat_lt p (length padded) ≡ false = le-ltb p (length padded) past in
        rw out refl
    no_text_past (Some most) =
        ap (λ w. option_and_then (λ s. text_of (cut_text most s)) (stretch_at w 0)) (empty most)

    pub bad_offset : (longest : Option ℕ) → IsTextFaultWithin longest padded p (Read BadOffset)
    bad_offset None = past
    bad_offset (Some most) =
        subst (λ w. FirstFault (stretch_at w 0) (IsOffsetFault w 0) (λ s. IsNoText (cut_text most s)) (Read BadOffset))
        (sym (empty most)) (omega arith)

pub ruleset texts = (answers_same, text_in_zeros, no_text_past, bad_offset)

some_there : (test : Bool) (x : Option (List ℕ)) (s : List ℕ) → cond test x None ≡ Some s → test ≡ true
some_there true x s is = refl
some_there false x s is = absurd cc

-- a text that was read begins in the bytes
pub text_within_stored : (longest : Option ℕ) (xs : List ℕ) (n p : ℕ) (s : List ℕ) → text_within longest xs p ≡ Some s
    → text_within longest (xs ++ replicate n 0) p ≡ Some s
text_within_stored longest xs n p s is =
    elim (cases_lt p (length xs)) [
      | inl lt ↦ within_stored xs n p lt longest ∙ is
      | inr past ↦
          let none : text_within longest xs p ≡ None =
          ap (λ ys. text_within longest ys p) (sym (append-nil xs))
          ∙ no_text_past xs 0 p (omega (arith, past, ap length (append-nil xs))) longest in
          absurd cc
    ]

-- ---- what is reached in the bytes of the file alone

-- what is read is the stored part, and zeros
parts_by : (test : Bool) (xs bytes : List ℕ) (n : ℕ) → (z : ℕ) × (cond test (xs ++ replicate n 0) bytes ≡ cond test (xs ++ replicate 0 0) bytes ++ replicate z 0)
parts_by true xs bytes n = (n, ap (λ (ys : List ℕ). ys ++ replicate n 0) (sym (append-nil xs)))
parts_by false xs bytes n = (0, sym (append-nil bytes))

part_zeros : (end : Option MappedEnd) (bytes : List ℕ) → (z : ℕ) × (in_memory end bytes ≡ in_memory (option_map stored end) bytes ++ replicate z 0)
part_zeros None bytes = (0, sym (append-nil bytes))
part_zeros (Some e) bytes = parts_by (nat_lt e.last (length bytes)) (take (e.last + 1) bytes) bytes e.zeros

clip_by : (test : Bool) (e : MappedEnd) (bytes : List ℕ) (x : ℕ) → nat_lt e.last (length bytes) ≡ test
    → x ≤ length (cond test (take (e.last + 1) bytes ++ replicate e.zeros 0) bytes)
    → min x (e.last + 1) ≡ min x (length (cond test (take (e.last + 1) bytes ++ replicate 0 0) bytes))
clip_by true e bytes x is le =
    omega (
      arith,
      length-append (take (e.last + 1) bytes) (replicate 0 0),
      length-take (e.last + 1) bytes,
      ltb-true e.last (length bytes) is,
    )
clip_by false e bytes x is le = omega (arith, ltb-false e.last (length bytes) is, le)

-- positions in what is read, as positions in the file
pub positions_clipped : (end : Option MappedEnd) (bytes : List ℕ) (begin x : ℕ) → x ≤ length (in_memory end bytes)
    → positions_in_file end (positions begin x) ≡ positions begin (min x (length (in_memory (option_map stored end) bytes)))
positions_clipped None bytes begin x le =
    let same : min x (length bytes) ≡ x = omega (arith, le) in
    ap (positions begin) (sym same)
positions_clipped (Some e) bytes begin x le =
    before-positions (e.last + 1) begin x
    ∙ ap (positions begin) (clip_by (nat_lt e.last (length bytes)) e bytes x refl le)

no_positions : (begin end : ℕ) → end ≤ begin → positions begin end ≡ []
unfolding positions
no_positions begin end le =
    let none : nat_lt begin end ≡ false = le-ltb begin end le in
    rw none refl

-- what a text reaches in the file is what it reaches in the stored part
stretch_reached : (xs : List ℕ) (z p : ℕ) → positions p (min (min (length (xs ++ replicate z 0)) (p + length (stretch (xs ++ replicate z 0) p) + 1)) (length xs)) ≡ stretch_footprint xs p
unfolding stretch_footprint
stretch_reached xs z p =
    let more : length (xs ++ replicate z 0) ≡ length xs + z = omega (arith, length-append xs (replicate z 0), count-zeros z) in
    elim (cases_lt p (length xs)) [
      | inl lt ↦
          let same = ap length (same_stretch xs z p lt) in
          ap (positions p) (omega (arith, more, same))
      | inr past ↦
          no_positions p (min (min (length (xs ++ replicate z 0)) (p + length (stretch (xs ++ replicate z 0) p) + 1)) (length xs)) (omega (arith, past))
          ∙ sym (no_positions p (min (length xs) (p + length (stretch xs p) + 1)) (omega (arith, past)))
    ]

pub text_reached : (end : Option MappedEnd) (bytes : List ℕ) (p : ℕ)
    → positions_in_file end (stretch_footprint (in_memory end bytes) p) ≡ stretch_footprint (in_memory (option_map stored end) bytes) p
unfolding stretch_footprint
text_reached end bytes p =
    let part = in_memory end bytes in
    let own = in_memory (option_map stored end) bytes in
    let zeros = part_zeros end bytes in
    positions_clipped end bytes p (min (length part) (p + length (stretch part p) + 1)) (omega arith)
    ∙ ap (λ (ys : List ℕ). positions p (min (min (length ys) (p + length (stretch ys p) + 1)) (length own))) zeros.1
    ∙ stretch_reached own zeros.0 p

-- ---- entries of w bytes among n bytes

next-entry : (w i : ℕ) → w * suc i ≡ w * i + w
next-entry w i = grind arith

-- this many whole entries are there
pub entry_inside : (w n i : ℕ) → 0 < w → i < n / w → w * i + w ≤ n
entry_inside w n i wide h =
    let below : w * suc i ≤ w * (n / w) = mul-le-mul_left w (omega arith) in
    omega (arith, below, next-entry w i)

-- and no more
pub entry_outside : (w n i : ℕ) → 0 < w → n / w ≤ i → n < w * i + w
entry_outside w n i wide h =
    let below : w * (n / w) ≤ w * i = mul-le-mul_left w h in
    omega (arith, below)

pub entry_stored : (xs : List ℕ) (n w i : ℕ) → 0 < w → i < length xs / w
    → slice_at (xs ++ replicate n 0) (w * i) w ≡ Some (slice_range xs (w * i) (w * i + w))
entry_stored xs n w i wide h =
    let fits = entry_inside w (length xs) i wide h in
    array_stored xs n (w * i) w (omega (arith, fits, wide)) (omega (arith, fits))

pub no_entry : (bytes : List ℕ) (w i : ℕ) → 0 < w → length bytes / w ≤ i → slice_at bytes (w * i) w ≡ None
no_entry bytes w i wide h = slice_at-past bytes (w * i) w (entry_outside w (length bytes) i wide h)

pub ruleset entries = (entry_inside, entry_outside, entry_stored, no_entry)
