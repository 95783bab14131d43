-- The first place of a word, found in lanes of sixteen bytes.
use Rattle.std.proofs.Common.{◌≡◌, ◌≢◌, ℕ, suc, zero, Bool, false, cond, ◌+◌, ◌-◌, ◌%◌, ◌^◌, ◌<◌, ◌≤◌, List, find, length, get_or, map, replicate, ap, sym, ◌∙◌, inl, inr, arith, w8, ◌==◌, drop, slice_index, slice_range, bit_or, take_all, get_or-take, get_or-drop, w32}
use Rattle.std.specs.List.{range_with_len}
use Rattle.std.specs.Int.Bits.{bit_xor, xor_assoc, xor_self, xor_zero_r}
use Rattle.std.proofs.lemmas.Bool.{cases_eq, eq-eqb, ne_eqb}
use Rattle.std.proofs.lemmas.Simd.{bitmask_splat, get_or-chunk, get_or-replicate, get_or-zip2, length-chunk, length-zip2, none_from_empty_mask}
use lib.Lanes.{chunk, mask_l, top, zip2}
use Rattle.std.specs.Int.{to_le_bytes}
use Rattle.goblin_base.specs.{declared.endian.Endian.TheVariants.Little, Bytes.IsBytes, Bytes.number, Bytes.number_bytes}
use Rattle.goblin_base.proofs.{Numbers.number_bytes_little, RecordRoundTrip.number_bytes-number}
use Rattle.goblin_base.proofs.First.{find_same}
use Rattle.goblin_pe_head.specs.RichHeader.{dans_place, is_dans, least_below, word_at}

-- a word under the key twice is the word
pub cancelled : (a key : ℕ) → bit_xor (bit_xor a key) key ≡ a
cancelled a key = xor_assoc a key key ∙ ap (bit_xor a) (xor_self key) ∙ xor_zero_r a

same_test : (word key marker : ℕ) → (word == bit_xor marker key) ≡ (bit_xor word key == marker)
same_test word key marker = elim (cases_eq word (bit_xor marker key)) [
  | inl is ↦ eq-eqb word (bit_xor marker key) is ∙ sym (eq-eqb (bit_xor word key) marker (ap (λ w. bit_xor w key) is ∙ cancelled marker key))
  | inr other ↦ ne_eqb word (bit_xor marker key) other ∙ sym (ne_eqb (bit_xor word key) marker (λ is. other (sym (cancelled word key) ∙ ap (λ w. bit_xor w key) is)))
]

-- the word that is the marker under a key
pub under_key : (stretch : List ℕ) (key n : ℕ) → n ≡ length stretch - 3 → least_below n (λ i. word_at stretch i == bit_xor 0x536E6144 key) ≡ dans_place key stretch
under_key stretch key n is =
    find_same (λ i. word_at stretch i == bit_xor 0x536E6144 key) (λ i. is_dans key (word_at stretch i)) (range_with_len 0 n) (λ k i at. same_test (word_at stretch i) key 0x536E6144)
    ∙ ap (λ m. find (λ i. is_dans key (word_at stretch i)) (range_with_len 0 m)) is

-- what is found from b on is found from a on, if nothing between passes
found_from : (test : ℕ → Bool) (m t n a b : ℕ) → b ≡ a + m → t ≡ m + n → ((k : ℕ) → a ≤ k → k < b → test k ≡ false) → find test (range_with_len b n) ≡ find test (range_with_len a t)
found_from test zero t n a b place size none =
    let begin : b ≡ a = omega (arith, place) in
    let all : n ≡ t = omega (arith, size) in
    (λ i. find test (range_with_len (begin i) (all i)))
found_from test (suc m) zero n a b place size none = absurd (omega (arith, size))
found_from test (suc m) (suc t) n a b place size none = rw (none a (omega arith) (omega (arith, place))) (found_from test m t n (a + 1) b (omega (arith, place)) (omega (arith, size)) (λ k low high. none k (omega (arith, low)) high))

pub found_past : (test : ℕ → Bool) (m n : ℕ) → m ≤ n → ((k : ℕ) → k < m → test k ≡ false) → find test (range_with_len m (n - m)) ≡ find test (range_with_len 0 n)
found_past test m n le none = found_from test m n (n - m) 0 m (omega arith) (omega (arith, le)) (λ k low high. none k high)

-- ---- sixteen bytes as the lanes of a vector

module _ (bytes : List ℕ) (at byte : ℕ) (room : at + 16 ≤ length bytes) where
  abbrev under : List ℕ
  under = zip2 (λ a b. bit_xor a b) (chunk at 16 bytes) (replicate 16 byte)

  pub length-under : length under ≡ 16
  length-under = length-zip2 (λ a b. bit_xor a b) (chunk at 16 bytes) (replicate 16 byte) (length-chunk at 16 bytes room) ∙ length-chunk at 16 bytes room

  pub zero-under : (k : ℕ) → k < 16 → slice_index bytes (at + k) ≡ byte → slice_index under k ≡ 0
  zero-under k low is =
      get_or-zip2 (λ a b. bit_xor a b) (chunk at 16 bytes) (replicate 16 byte) k 0 0 0 (omega (arith, low, length-chunk at 16 bytes room)) low
      ∙ ap (λ a. bit_xor a (get_or (replicate 16 byte) k 0)) (get_or-chunk at 16 bytes k 0 low ∙ is)
      ∙ ap (bit_xor byte) (get_or-replicate 16 k byte 0 low)
      ∙ xor_self byte

-- lanes that are 0 in both
module _ (xs ys : List ℕ) (some : length xs ≡ 16) (same : length ys ≡ 16) where
  pub length-or : length (zip2 bit_or xs ys) ≡ 16
  length-or = length-zip2 bit_or xs ys (some ∙ sym same) ∙ some

  pub zero-or : (k : ℕ) → k < 16 → slice_index xs k ≡ 0 → slice_index ys k ≡ 0 → slice_index (zip2 bit_or xs ys) k ≡ 0
  zero-or k low is other = get_or-zip2 bit_or xs ys k 0 0 0 (omega (arith, low, some)) (omega (arith, low, same)) ∙ (λ i. bit_or (is i) (other i))

-- no mark: no lane is 0
pub no_zero : (xs : List ℕ) → length xs ≡ 16 → mask_l (map (top 7) (zip2 (λ a b. cond (a == b) 255 0) xs (replicate 16 0))) % 2 ^ 64 ≡ 0 → (k : ℕ) → k < 16 → slice_index xs k ≢ 0
no_zero xs long none k low is =
    let marks = ap (λ l. mask_l (map (λ x. x == 0) l)) (take_all 16 xs (omega (arith, long))) ∙ sym (bitmask_splat w8 (λ a b. a == b) xs 16 0 long (omega arith)) ∙ none in
    let other : (slice_index xs k == 0) ≡ false = none_from_empty_mask (λ x. x == 0) xs 0 16 0 (omega (arith, long)) marks k (omega arith) low in
    absurd (cc (other, eq-eqb (slice_index xs k) 0 is))

-- the bytes of a word
pub stored : (bytes : List ℕ) (word p i : ℕ) → IsBytes bytes → p + 4 ≤ length bytes → number Little 4 bytes p ≡ word → i < 4 → slice_index (to_le_bytes w32 word) i ≡ slice_index bytes (p + i)
stored bytes word p i are room same low =
    let is : to_le_bytes w32 word ≡ slice_range bytes p (p + 4) = sym (number_bytes_little 4 word) ∙ ap (number_bytes Little 4) (sym same) ∙ number_bytes-number Little 4 bytes p are room in
    ap (λ s. slice_index s i) is ∙ get_or-take (p + 4 - p) (drop p bytes) i 0 (omega (arith, low)) ∙ get_or-drop p bytes i 0
