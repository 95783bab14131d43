-- A text that is ASCII, cut at a limit or not.
use Rattle.std.proofs.Common.{IfSome, inl, inr, IsUtf8, min, take-take, get_or-take, get_or-drop, slice_index, ◌≡◌, ◌<◌, ◌≤◌, ℕ, ◌+◌, ◌-◌, List, length, drop, take, take_all, refl, ap, sym, ◌∙◌, arith, slice_range, Some, None, nat_lt, length-drop, length-take, true, Option, drop-drop}
use Rattle.std.specs.{List.position_or_len, Str.is_utf8}
use Rattle.std.proofs.lemmas.List.Sums.{position_or_len_is}
use Rattle.std.proofs.lemmas.Str.{is_utf8-from_IsUtf8}
use Rattle.goblin_base.proofs.AsciiText.{ascii_text, ascii_utf8}
use Rattle.std.proofs.lemmas.Bool.{cases_lt, lt-ltb}
use Rattle.std.proofs.{lemmas.Option.cond_some}
use Rattle.goblin_base.specs.Bytes.{begins_character, before_nul, cut_text, cut_window, front_text, text_at, text_of, text_within}
use Rattle.goblin_base.proofs.{CutTexts.front-kept, CutTexts.front-same, CutTexts.uncut, Numbers.rest_is_drop, Texts.text_in_rest}

-- the bytes from a place on, as far as there is room
pub front_all : (bytes : List ℕ) (p room : ℕ) → p ≤ length bytes
    → length (slice_range bytes p (length bytes)) ≤ room
    → slice_range bytes p (length bytes) ≡ take room (drop p bytes)
front_all bytes p room within few =
    let same = rest_is_drop bytes p in
    same ∙ sym (take_all room (drop p bytes) (omega (arith, few, ap length same)))

pub front_part : (bytes : List ℕ) (p room : ℕ)
    → slice_range (slice_range bytes p (length bytes)) 0 room ≡ take room (drop p bytes)
front_part bytes p room =
    let width : room - 0 ≡ room = omega arith in
    ap (λ (k : ℕ). take k (slice_range bytes p (length bytes))) width
    ∙ ap (λ (xs : List ℕ). take room xs) (rest_is_drop bytes p)

pub ruleset front = (front_all, front_part)

-- ---- ASCII at the front of the bytes through a lane past the limit

module _ (front : List ℕ) (n run : ℕ) (within : run ≤ length front) (are_ascii : (k : ℕ) → k < run → (0 < slice_index front k) × (slice_index front k < 128)) (ends : run < length front → slice_index front run ≡ 0) where
  -- the bytes that decide on the cut text, and how many of them are the text before it is cut
  abbrev window : List ℕ
  window = take (n + 4) front

  abbrev part : ℕ
  part = min run (n + 4)

  part-within : part ≤ length window
  part-within = omega (arith, within, length-take (n + 4) front)

  part-ascii : (k : ℕ) → k < part → (0 < slice_index window k) × (slice_index window k < 128)
  part-ascii k lt =
      rw (get_or-take (n + 4) front k 0 (omega (arith, lt))) (are_ascii k (omega (arith, lt)))

  part-ends : part < length window → slice_index window part ≡ 0
  part-ends lt =
      let room = length-take (n + 4) front in
      let end : part ≡ run = omega (arith, lt, room) in
      get_or-take (n + 4) front part 0 (omega (arith, lt, room))
      ∙ ap (slice_index front) end ∙ ends (omega (arith, lt, room))

  stretch-is : before_nul window ≡ take part window
  stretch-is =
      let is = ascii_text window part part-within part-ascii part-ends in
      (cond_some (is_utf8 (before_nul window)) (before_nul window) (take part window) is).1

  -- a longer text goes on with ASCII or ends, so it is cut after the byte past the limit
  next-begins : n < run → take (n + 1) front ≡ cut_text n (take part window)
  next-begins longer =
      let long : length (take part window) ≡ part = omega (arith, length-take part window, part-within) in
      let rest = drop (n + 1) (take part window) in
      let least : position_or_len begins_character rest ≡ 0 =
      position_or_len_is begins_character rest 0 0 (omega arith) (λ k lt. absurd (omega (arith, lt)))
      (λ lt.
      let below : n + 1 < part = omega (arith, lt, long, length-drop (n + 1) (take part window)) in
      let small : slice_index rest 0 < 128 =
      rw (get_or-drop (n + 1) (take part window) 0 0, get_or-take part window (n + 1 + 0) 0 (omega (arith, below)))
      (part-ascii (n + 1 + 0) (omega (arith, below))).1 in
      rw (lt-ltb (slice_index rest 0) 128 small) refl) in
      sym
      (ap (λ (k : ℕ). take (n + 1 + k) (take part window)) least
      ∙ take-take (n + 1 + 0) part window (omega (arith, longer))
      ∙ take-take (n + 1 + 0) (n + 4) front (omega arith)
      ∙ ap (λ (k : ℕ). take k front) (omega arith))

  is_cut : n < run → front_text n window ≡ Some (take (n + 1) front)
  is_cut longer =
      let there : nat_lt 0 (length window) ≡ true =
      lt-ltb 0 (length window) (omega (arith, longer, part-within)) in
      let is : cut_text n (before_nul window) ≡ take (n + 1) front =
      ap (cut_text n) stretch-is ∙ sym (next-begins longer) in
      let utf8 : is_utf8 (take (n + 1) front) ≡ true =
      is_utf8-from_IsUtf8 (take (n + 1) front)
      (ascii_utf8 front (n + 1) (omega (arith, longer, within)) (λ k lt. are_ascii k (omega (arith, lt, longer)))) in
      rw there (ap text_of is ∙ rw utf8 refl)

  is_short : 0 < length front → run ≤ n → front_text n window ≡ Some (take run front)
  is_short some short =
      let text = ascii_text front run within are_ascii ends in
      let all = cond_some (is_utf8 (before_nul front)) (before_nul front) (take run front) text in
      let long : length (before_nul front) ≡ run =
      ap length all.1 ∙ omega (arith, within, length-take run front) in
      let own : before_nul window ≡ take run front =
      front-kept (n + 4) front (omega (arith, long, short)) ∙ all.1 in
      let whole : cut_text n (before_nul window) ≡ take run front =
      uncut n (before_nul window) (omega (arith, short, long, ap length own, ap length all.1)) ∙ own in
      let utf8 : is_utf8 (take run front) ≡ true = sym (ap is_utf8 all.1) ∙ all.0 in
      let there : nat_lt 0 (length window) ≡ true =
      lt-ltb 0 (length window) (omega (arith, some, length-take (n + 4) front)) in
      rw there (ap text_of whole ∙ rw utf8 refl)

  -- the text cut at the limit, and the text itself where the limit is past all bytes
  pub ascii_cut : (e : ℕ) → e ≡ min run (n + 1) → 0 < length front
      → front_text n (take (n + 4) front) ≡ Some (take e front)
  ascii_cut e is some =
      elim (cases_lt n run) [
        | inl longer ↦ is_cut longer ∙ ap (λ (k : ℕ). Some (take k front)) (omega (arith, is, longer))
        | inr short ↦ is_short some short ∙ ap (λ (k : ℕ). Some (take k front)) (omega (arith, is, short))
      ]

  pub ascii_whole : (e : ℕ) → e ≡ min run (n + 1) → length front ≤ n
      → text_of (before_nul front) ≡ Some (take e front)
  ascii_whole e is few =
      ascii_text front run within are_ascii ends
      ∙ ap (λ (k : ℕ). Some (take k front)) (omega (arith, is, few, within))

  pub ascii_front : (e : ℕ) → e ≡ min run (n + 1) → IsUtf8 (take e front)
  ascii_front e is =
      ascii_utf8 front e (omega (arith, is, within)) (λ k lt. are_ascii k (omega (arith, lt, is)))

-- ---- the text at a place

module _ (bytes : List ℕ) (p limit : ℕ) (front s : List ℕ) (lt : p < length bytes) (is : front ≡ take (limit + 16) (drop p bytes)) where
  -- with a limit, the bytes that decide on the text are among those
  pub is_limited : front_text limit (take (limit + 4) front) ≡ Some s → text_within (Some limit) bytes p ≡ Some s
  is_limited cut =
      let width : p + limit + 4 - p ≡ limit + 4 = omega arith in
      let same : cut_window bytes p limit ≡ take (limit + 4) front =
      ap (λ (k : ℕ). take k (drop p bytes)) width
      ∙ sym (take-take (limit + 4) (limit + 16) (drop p bytes) (omega arith))
      ∙ sym (ap (take (limit + 4)) is) in
      ap (front_text limit) same ∙ cut

  -- without a limit, all of the bytes are
  pub is_text : length bytes ≤ limit → (length front ≤ limit → text_of (before_nul front) ≡ Some s) → text_at bytes p ≡ Some s
  is_text all text =
      let whole : front ≡ drop p bytes =
      is ∙ take_all (limit + 16) (drop p bytes) (omega (arith, all, length-drop p bytes)) in
      let few : length front ≤ limit = omega (arith, all, ap length whole, length-drop p bytes) in
      rw (lt-ltb p (length bytes) lt) (sym (ap (λ (xs : List ℕ). text_of (before_nul xs)) whole) ∙ text few)

-- a text that ends among the bytes through one past the limit
pub short_text : (longest : Option ℕ) (bytes : List ℕ) (p limit : ℕ) (front s : List ℕ) → p < length bytes
    → front ≡ take (limit + 1) (drop p bytes) → IfSome longest (λ n. limit ≡ n)
    → text_of (before_nul front) ≡ Some s → length s < length front → text_within longest bytes p ≡ Some s
short_text longest bytes p limit front s lt is limited text short =
    let rest = drop p bytes in
    let found = cond_some (is_utf8 (before_nul front)) (before_nul front) s text in
    let few : length s < limit + 1 = omega (arith, short, ap length is, length-take (limit + 1) rest) in
    let same : before_nul rest ≡ s =
    sym (front-same (limit + 1) rest (omega (arith, few, ap length found.1, ap (λ (xs : List ℕ). length (before_nul xs)) is)))
    ∙ sym (ap before_nul is) ∙ found.1 in
    let utf8 : is_utf8 s ≡ true = sym (ap is_utf8 found.1) ∙ found.0 in
    by_limit longest limited few same utf8
  where
    by_limit : (longest : Option ℕ) → IfSome longest (λ n. limit ≡ n) → length s < limit + 1
        → before_nul (drop p bytes) ≡ s → is_utf8 s ≡ true → text_within longest bytes p ≡ Some s
    by_limit None limited few same utf8 = rw (lt-ltb p (length bytes) lt) (ap text_of same ∙ rw utf8 refl)
    by_limit (Some n) limited few same utf8 =
        let rest = drop p bytes in
        let width : p + n + 4 - p ≡ n + 4 = omega arith in
        let window : cut_window bytes p n ≡ take (n + 4) rest = ap (λ (k : ℕ). take k rest) width in
        let own : before_nul (take (n + 4) rest) ≡ s = front-kept (n + 4) rest (omega (arith, few, limited, ap length same)) ∙ same in
        let there : nat_lt 0 (length (take (n + 4) rest)) ≡ true =
        lt-ltb 0 (length (take (n + 4) rest)) (omega (arith, lt, length-take (n + 4) rest, length-drop p bytes)) in
        ap (front_text n) window
        ∙ rw there (ap (λ (t : List ℕ). text_of (cut_text n t)) own ∙ ap text_of (uncut n s (omega (arith, few, limited))) ∙ rw utf8 refl)

-- a text in what follows a place is the text at its own place
pub limited_in_rest : (longest : Option ℕ) (bytes : List ℕ) (p k : ℕ) → p ≤ length bytes
    → text_within longest (slice_range bytes p (length bytes)) k ≡ text_within longest bytes (p + k)
limited_in_rest None bytes p k within = text_in_rest bytes p k within
limited_in_rest (Some n) bytes p k within =
    let one : k + n + 4 - k ≡ n + 4 = omega arith in
    let two : p + k + n + 4 - (p + k) ≡ n + 4 = omega arith in
    ap (front_text n)
    (ap (λ (m : ℕ). take m (drop k (slice_range bytes p (length bytes)))) one
    ∙ ap (λ (xs : List ℕ). take (n + 4) (drop k xs)) (rest_is_drop bytes p)
    ∙ ap (λ (xs : List ℕ). take (n + 4) xs) (drop-drop k p bytes)
    ∙ sym (ap (λ (m : ℕ). take m (drop (p + k) bytes)) two))
