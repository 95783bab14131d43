-- Files that agree on what a read of a part reaches have the same part, and what it reaches lies in
-- the file.
use Rattle.std.proofs.Common.{◌≡◌, ◌<◌, ◌≤◌, ◌+◌, ◌-◌, ℕ, zero, suc, Bool, true, false, cond, ◌&&◌, nat_le, List, [], ◌∷◌, length, drop, take, Option, Some, None, refl, sym, ap, subst, ◌∙◌, inl, inr, arith}
use Rattle.std.specs.Prelude.{option_map, slice_index, slice_range}
use Rattle.std.specs.List.{find, position_or_len, range_with_len, slice_get}
use Rattle.std.proofs.lemmas.List.FromFn.{get_or-range_with_len, length-range_with_len}
use Rattle.std.proofs.lemmas.Option.{get_or_from_slice_get, slice_get_read, slice_get_within}
use Rattle.goblin_base.proofs.First.{fails_before, found_at_first, found_passes, none_passes}
use Rattle.std.proofs.lemmas.Bool.{and_parts, cases_eq, cases_lt, leb-true}
use Rattle.std.proofs.lemmas.Grind.{same_number_lists}
use Rattle.std.proofs.lemmas.List.{get_or-drop, get_or-take, get_or_past, length-drop, length-take}
use Rattle.std.proofs.lemmas.List.Elements.{All-cons, All-head, All-nil, All-tail}
use Rattle.goblin_base.specs.{declared.endian.Endian.Endian, declared.error.ErrorOf.ErrorOf}
use Rattle.goblin_base.specs.{Answers.IsMemory, Bytes.number, Bytes.text_of, Reading.IsInFile}
use Rattle.goblin_base.specs.Strtab.{IsStringTableFault, string_table}
use Rattle.goblin_base.specs.Footprints.{Agree, Covers, Range, led_to, positions, slice_footprint}
use Rattle.goblin_base.specs.Parts.{between_footprint, bytes_between, front_through, least_place, moved_by, search_footprint}
use Rattle.goblin_base.proofs.Footprints.{agree-led, agree-slice, same-byte, same-number, same-slice_range, same-within, same_if}
use Rattle.goblin_base.proofs.{Inside.AreInside, Inside.positions-in, Readings.by_cases-not_memory}

-- ---- reads of a part, as if it were the whole

pub covers-moved : (p i : ℕ) (ranges : List Range) → Covers ranges i
    → Covers (moved_by p ranges) (p + i)
covers-moved p i [] h = absurd h
covers-moved p i (range ∷ ranges) (inl h) = inl (omega (arith, h.0), omega (arith, h.1))
covers-moved p i (range ∷ ranges) (inr h) = inr (covers-moved p i ranges h)

-- files that agree on positions from p on agree on them in what is left there
pub agree-moved : (p : ℕ) (ranges : List Range) (a b : List ℕ) → Agree (moved_by p ranges) a b
    → Agree ranges (drop p a) (drop p b)
agree-moved p ranges a b h = record {
  same_length = omega (arith, length-drop p a, length-drop p b, h.same_length);
  same_bytes = λ i c.
      get_or-drop p a i 0 ∙ h.same_bytes (p + i) (covers-moved p i ranges c)
      ∙ sym (get_or-drop p b i 0);
}

pub byte_of_slice : (bytes : List ℕ) (begin end i : ℕ) → i < end - begin
    → slice_index (slice_range bytes begin end) i ≡ slice_index bytes (begin + i)
byte_of_slice bytes begin end i lt =
    get_or-take (end - begin) (drop begin bytes) i 0 lt ∙ get_or-drop begin bytes i 0

-- and in a slice that begins at p
pub agree-moved_slice : (begin end : ℕ) (ranges : List Range) (a b : List ℕ)
    → Agree (moved_by begin ranges) a b
    → Agree ranges (slice_range a begin end) (slice_range b begin end)
agree-moved_slice begin end ranges a b h =
    let long : (bytes : List ℕ) → length (slice_range bytes begin end) ≤ end - begin =
    λ bytes. omega (arith, length-take (end - begin) (drop begin bytes)) in
    record {
      same_length = omega (
        arith,
        length-take (end - begin) (drop begin a),
        length-take (end - begin) (drop begin b),
        length-drop begin a,
        length-drop begin b,
        h.same_length,
      );
      same_bytes = λ i c. elim (cases_lt i (end - begin)) [
        | inl lt ↦
            byte_of_slice a begin end i lt
            ∙ h.same_bytes (begin + i) (covers-moved begin i ranges c)
            ∙ sym (byte_of_slice b begin end i lt)
        | inr past ↦
            get_or_past (slice_range a begin end) i 0 (omega (arith, long a, past))
            ∙ sym (get_or_past (slice_range b begin end) i 0 (omega (arith, long b, past)))
      ];
    }

-- what is reached in bytes that begin at p lies in the file
moved_in : (p : ℕ) (part bytes : List ℕ) (ranges : List Range)
    → length part ≤ length bytes - p → AreInside part ranges
    → AreInside bytes (moved_by p ranges)
moved_in p part bytes [] le h = All-nil (IsInFile bytes)
moved_in p part bytes (range ∷ ranges) le h =
    let own = All-head (IsInFile part) range ranges h in
    let rest = moved_in p part bytes ranges le (All-tail (IsInFile part) range ranges h) in
    All-cons (IsInFile bytes) (p + range.0, p + range.1) (moved_by p ranges)
    (omega (arith, own.0), omega (arith, own.0, own.1, le)) rest

pub rest-moved-in : (p : ℕ) (bytes : List ℕ) (ranges : List Range)
    → AreInside (drop p bytes) ranges → AreInside bytes (moved_by p ranges)
rest-moved-in p bytes ranges h =
    moved_in p (drop p bytes) bytes ranges (omega (arith, length-drop p bytes)) h

pub slice-moved-in : (begin end : ℕ) (bytes : List ℕ) (ranges : List Range)
    → AreInside (slice_range bytes begin end) ranges → AreInside bytes (moved_by begin ranges)
slice-moved-in begin end bytes ranges h =
    moved_in begin (slice_range bytes begin end) bytes ranges
    (omega (
      arith,
      length-take (end - begin) (drop begin bytes),
      length-drop begin bytes,
    )) h

-- ---- the bytes between two offsets

pub same-bytes_between : (a b : List ℕ) (begin end : ℕ)
    → Agree (between_footprint a begin end) a b
    → bytes_between a begin end ≡ bytes_between b begin end
same-bytes_between a b begin end h =
    same_if (nat_le begin end && nat_le end (length a)) (nat_le begin end && nat_le end (length b))
    _ _ None (ap (λ (n : ℕ). nat_le begin end && nat_le end n) h.same_length)
    (λ there. ap Some (
    let tests = and_parts (nat_le begin end) (nat_le end (length a)) there in
    let low = leb-true begin end tests.0 in
    let high = leb-true end (length a) tests.1 in
    let is : bytes_between a begin end ≡ Some (slice_range a begin end) = rw there refl in
    let own : Agree (positions begin end) a b =
    agree-led (bytes_between a begin end) (λ _. positions begin end)
    (slice_range a begin end) a b is h in
    let all : begin + (end - begin) ≡ end = omega (arith, low) in
    subst (λ (k : ℕ). slice_range a begin k ≡ slice_range b begin k) all
    (same-within begin end a b begin (end - begin) own (omega arith) (omega (arith, all))
    (omega (arith, all, high)))))

between_by : (bytes own : List ℕ) (begin end : ℕ) (there : Bool)
    → (there ≡ true → end ≤ length bytes)
    → AreInside bytes (led_to (cond there (Some own) None) (λ _. positions begin end))
between_by bytes own begin end true high = positions-in bytes begin end (λ some. high refl)
between_by bytes own begin end false high = All-nil (IsInFile bytes)

pub between-in : (bytes : List ℕ) (begin end : ℕ)
    → AreInside bytes (between_footprint bytes begin end)
between-in bytes begin end =
    between_by bytes (slice_range bytes begin end) begin end
    (nat_le begin end && nat_le end (length bytes))
    (λ there.
    leb-true end (length bytes)
    (and_parts (nat_le begin end) (nat_le end (length bytes)) there).1)

-- ---- the first number that passes a test

-- the first of n numbers from a on that passes the test passes, and none before it does
pub record IsFound (test : ℕ → Bool) (a n i : ℕ) : Type 0 where
  pub low : a ≤ i
  pub high : i < a + n
  pub passes : test i ≡ true
  pub least : (k : ℕ) → a ≤ k → k < i → test k ≡ false

-- a number is at its place among n from a on
in_range : (a n k : ℕ) → a ≤ k → k < a + n → slice_get (range_with_len a n) (k - a) ≡ Some k
in_range a n k low high =
    let place : a + (k - a) ≡ k = omega (arith, low) in
    slice_get_read (range_with_len a n) n (k - a) k (sym (length-range_with_len a n))
    (omega (arith, low, high))
    (sym (get_or-range_with_len a n (k - a) k (omega (arith, low, high)) ∙ place))

-- what is found, with the numbers before it
pub find_is : (test : ℕ → Bool) (n a i : ℕ) → find test (range_with_len a n) ≡ Some i
    → IsFound test a n i
find_is test n a i e =
    let xs = range_with_len a n in
    let j = position_or_len test xs in
    let at = found_at_first test xs i e in
    let within : j < n = omega (arith, slice_get_within xs j i at, length-range_with_len a n) in
    let is : a + j ≡ i =
    sym (get_or-range_with_len a n j i within) ∙ get_or_from_slice_get xs j i i at in
    record {
      low = omega (arith, is);
      high = omega (arith, is, within);
      passes = found_passes test xs i e;
      least = λ k low lt.
          fails_before test xs (k - a) k (omega (arith, low, lt, is))
          (in_range a n k low (omega (arith, lt, is, within)));
    }

pub find_none : (test : ℕ → Bool) (n a k : ℕ) → find test (range_with_len a n) ≡ None → a ≤ k
    → k < a + n → test k ≡ false
find_none test n a k e low high =
    none_passes test (range_with_len a n) e (k - a) k (in_range a n k low high)

pub found_none : (test : ℕ → Bool) (n a : ℕ) → ((k : ℕ) → a ≤ k → k < a + n → test k ≡ false) → find test (range_with_len a n) ≡ None
found_none test zero a none = refl
found_none test (suc n) a none =
    rw (none a (omega arith) (omega arith)) (found_none test n (a + 1) (λ k low high. none k (omega (arith, low)) (omega (arith, high))))

pub found_at : (test : ℕ → Bool) (n a i : ℕ) → a ≤ i → i < a + n → test i ≡ true → ((k : ℕ) → a ≤ k → k < i → test k ≡ false) → find test (range_with_len a n) ≡ Some i
found_at test zero a i low high passes least = absurd (omega (arith, low, high))
found_at test (suc n) a i low high passes least = elim (cases_eq i a) [
  | inl at ↦ rw at (rw (ap test (sym at) ∙ passes) refl)
  | inr other ↦ rw (least a (omega arith) (omega (arith, low, other)))
      (found_at test n (a + 1) i (omega (arith, low, other)) (omega (arith, high)) passes (λ k from to. least k (omega (arith, from)) to))
]

-- tests that agree up to the first number that passes find the same
pub find_alike : (test again : ℕ → Bool) (n a i : ℕ) → find test (range_with_len a n) ≡ Some i
    → ((k : ℕ) → k ≤ i → test k ≡ again k) → find again (range_with_len a n) ≡ Some i
find_alike test again n a i e same =
    let is = find_is test n a i e in
    found_at again n a i is.low is.high (sym (same i (omega arith)) ∙ is.passes)
    (λ k low lt. sym (same k (omega (arith, lt))) ∙ is.least k low lt)

-- ---- the least place of a number that passes a test

module _ (endian : Endian) (n more : ℕ) (test : ℕ → Bool) where
  -- what is found lies in the file
  pub least_place-high : (bytes : List ℕ) (i : ℕ) → least_place endian n more test bytes ≡ Some i
      → i + (n + more) ≤ length bytes
  least_place-high bytes i e =
      let is =
      find_is (λ k. test (number endian n bytes k)) (length bytes - (n + more - 1)) 0 i e in
      omega (arith, is.high)

  same_bytes_all : (a b : List ℕ) → Agree (positions 0 (length a)) a b → a ≡ b
  same_bytes_all a b h =
      same_number_lists a b h.same_length
      (λ k lt. same-byte 0 (length a) a b k h (omega arith) lt)

  same_front : (m : ℕ) (a b : List ℕ) → m ≤ length a → Agree (positions 0 m) a b
      → take m a ≡ take m b
  same_front m a b le h =
      let all : 0 + m - 0 ≡ m = omega arith in
      subst (λ (k : ℕ). take k a ≡ take k b) all
      (same-within 0 m a b 0 m h (omega arith) (omega arith) (omega (arith, le)))

  same_place : (a b : List ℕ) (i : ℕ) → least_place endian n more test a ≡ Some i
      → Agree (positions 0 (i + (n + more))) a b → least_place endian n more test b ≡ Some i
  same_place a b i e h =
      let high = least_place-high a i e in
      let alike =
      find_alike (λ k. test (number endian n a k)) (λ k. test (number endian n b k))
      (length a - (n + more - 1)) 0 i e
      (λ k le.
      let own = agree-slice 0 (i + (n + more)) a b k n (omega arith) (omega (arith, le)) h in
      ap test (same-number endian n a b k own (omega (arith, le, high)))) in
      subst
      (λ (l : ℕ).
      find (λ k. test (number endian n b k)) (range_with_len 0 (l - (n + more - 1))) ≡ Some i)
      h.same_length alike

  by_place : (a b : List ℕ) (place : Option ℕ) → least_place endian n more test a ≡ place
      → Agree (search_footprint (n + more) place a) a b
      → option_map (λ (i : ℕ). (i, take (i + (n + more)) a)) place
      ≡ front_through endian n more test b
  by_place a b None is h =
      ap (option_map (λ (i : ℕ). (i, take (i + (n + more)) a))) (sym is)
      ∙ ap (front_through endian n more test) (same_bytes_all a b h)
  by_place a b (Some i) is h =
      let there = same_place a b i is h in
      let front =
      same_front (i + (n + more)) a b (least_place-high a i is) h in
      ap (λ (xs : List ℕ). Some (i, xs)) front
      ∙ ap (option_map (λ (i : ℕ). (i, take (i + (n + more)) b))) (sym there)

  pub same-front_through : (a b : List ℕ)
      → Agree (search_footprint (n + more) (least_place endian n more test a) a) a b
      → front_through endian n more test a ≡ front_through endian n more test b
  same-front_through a b h = by_place a b (least_place endian n more test a) refl h

  place_in : (bytes : List ℕ) (place : Option ℕ) → least_place endian n more test bytes ≡ place
      → AreInside bytes (search_footprint (n + more) place bytes)
  place_in bytes None is = positions-in bytes 0 (length bytes) (λ some. omega arith)
  place_in bytes (Some i) is =
      positions-in bytes 0 (i + (n + more)) (λ some. least_place-high bytes i is)

  pub search-in : (bytes : List ℕ)
      → AreInside bytes
      (search_footprint (n + more) (least_place endian n more test bytes) bytes)
  search-in bytes = place_in bytes (least_place endian n more test bytes) refl

-- ---- string tables

pub same-string_table : (a b : List ℕ) (p n : ℕ) → Agree (slice_footprint a p n) a b
    → string_table a p n ≡ string_table b p n
same-string_table a b p n h =
    same_if (nat_le (p + n) (length a)) (nat_le (p + n) (length b)) _ _ None
    (ap (nat_le (p + n)) h.same_length)
    (λ there.
    ap text_of (same-slice_range a b p n h (leb-true (p + n) (length a) there)))

pub string_table-not_memory : (bytes : List ℕ) (p n : ℕ) (e : ErrorOf)
    → IsStringTableFault bytes p n e → ¬ IsMemory e
string_table-not_memory bytes p n =
    by_cases-not_memory (IsStringTableFault bytes p n) (λ m h. h)
