-- Sixteen bytes as the lanes of a vector, and the first of them that is a NUL or not ASCII.
use Rattle.std.proofs.Common.{◌≡◌, ◌⊎◌, ℕ, ◌+◌, ◌-◌, ◌%◌, ◌^◌, ◌<◌, ◌≤◌, leb, cond, Bool, true, false, not, List, map, length, get_or, replicate, Fits, w8, w64, ap, subst, sym, ◌∙◌, arith, inl, inr}
use Rattle.std.specs.{List.prefix_len, Int.bit_at}
use Rattle.std.proofs.lemmas.Bool.{cases_lt, leb-false, leb-true}
use Rattle.std.proofs.lemmas.List.{length-map, get_or_past}
use Rattle.std.proofs.lemmas.Nat.Bits.{bit_at-trailing_zeros}
use Rattle.std.proofs.lemmas.Simd.{tops_compared, zip2_splat, zip2_splat_left, map-map, mask_l-mod, length-chunk, trailing_mask_l, mask_l-lt, bit_mask_l, run_in_chunk_fails, run_in_chunk_stops, none_from_empty_mask}
use lib.Count.{count_trailing_zeros}
use lib.Lanes.{chunk, zip2, mask_l, top}

-- a byte less one, as a lane wraps it
abbrev less : ℕ → ℕ → ℕ
less a b = (a + (256 - b)) % 256

-- the byte is a NUL or not ASCII, as the lanes tell it
abbrev is_end : ℕ → Bool
is_end x = leb 127 (less x 1)

abbrev pub marks_of : List ℕ → ℕ
marks_of v = mask_l (map (top 7) (zip2 (λ a b. cond (leb a b) 255 0) (replicate 16 127) (zip2 less v (replicate 16 1)))) % 2 ^ 64

marks_are : (v : List ℕ) → length v ≡ 16 → marks_of v ≡ mask_l (map is_end v)
marks_are v long =
    let w = map (λ x. less x 1) v in
    let size : length w ≡ 16 = length-map v (λ x. less x 1) ∙ long in
    ap (λ u. mask_l (map (top 7) (zip2 (λ a b. cond (leb a b) 255 0) (replicate 16 127) u)) % 2 ^ 64) (zip2_splat less v 16 1 long)
    ∙ ap (λ ms. mask_l ms % 2 ^ 64) (tops_compared w8 leb (replicate 16 127) w ∙ zip2_splat_left leb 127 16 w size ∙ map-map (λ y. leb 127 y) (λ x. less x 1) v)
    ∙ mask_l-mod (map is_end v) 64 (omega (arith, length-map v is_end, long))

ascii_byte : (x : ℕ) → x < 256 → is_end x ≡ false → (0 < x) × (x < 128)
ascii_byte x fits h =
    let low : less x 1 < 127 = leb-false 127 (less x 1) h in
    (omega (arith, low, fits), omega (arith, low, fits))

end_byte : (x : ℕ) → x < 256 → is_end x ≡ true → (x ≡ 0) ⊎ (128 ≤ x)
end_byte x fits h =
    let high : 127 ≤ less x 1 = leb-true 127 (less x 1) h in
    elim (cases_lt 0 x) [
      | inl some ↦ inr (omega (arith, high, fits, some))
      | inr none ↦ inl (omega (arith, none))
    ]

module _ (xs : List ℕ) (room : 16 ≤ length xs) (typed : (k : ℕ) → Fits w8 (get_or xs k 0)) where
  abbrev lanes : List ℕ
  lanes = chunk 0 16 xs

  enough : 0 + 16 ≤ length xs
  enough = omega (arith, room)

  are : marks_of lanes ≡ mask_l (map is_end lanes)
  are = marks_are lanes (length-chunk 0 16 xs enough)

  -- no mark: all sixteen are ASCII and no NUL
  pub all_ascii : marks_of lanes ≡ 0 → (k : ℕ) → k < 16 → (0 < get_or xs k 0) × (get_or xs k 0 < 128)
  all_ascii none k to = ascii_byte (get_or xs k 0) (typed k).fits (none_from_empty_mask is_end xs 0 16 0 enough (sym are ∙ none) k (omega arith) (omega (arith, to)))

  counted : 0 < marks_of lanes → count_trailing_zeros 64 (marks_of lanes) ≡ prefix_len (λ x. not (is_end x)) lanes
  counted some = ap (count_trailing_zeros 64) are ∙ trailing_mask_l is_end 64 lanes (omega (arith, length-chunk 0 16 xs enough)) (omega (arith, some, are))

  -- the mask has no bit past the sixteenth
  pub run_within : 0 < marks_of lanes → count_trailing_zeros 64 (marks_of lanes) < 16
  run_within some =
      let ms = map is_end lanes in
      let m = mask_l ms in
      let run = count_trailing_zeros 64 m in
      let long : length ms ≡ 16 = length-map lanes is_end ∙ length-chunk 0 16 xs enough in
      let fits : m < 2 ^ 64 = omega (arith, subst (λ (n : ℕ). m < 2 ^ n) long (mask_l-lt ms)) in
      let set : bit_at m run ≡ 1 = (bit_at-trailing_zeros w64 m (omega (arith, some, are)) fits).1 in
      let within : run < 16 = elim (cases_lt run 16) [
        | inl it ↦ it
        | inr past ↦
            let clear : bit_at m run ≡ 0 = bit_mask_l ms run ∙ ap (λ (b : Bool). cond b 1 0) (get_or_past ms run false (omega (arith, long, past))) in
            absurd (omega (arith, set, clear))
      ] in
      subst (λ (n : ℕ). count_trailing_zeros 64 n < 16) (sym are) within

  pub run_ascii : 0 < marks_of lanes → (k : ℕ) → k < count_trailing_zeros 64 (marks_of lanes) → (0 < get_or xs k 0) × (get_or xs k 0 < 128)
  run_ascii some k to = ascii_byte (get_or xs k 0) (typed k).fits (run_in_chunk_fails is_end xs 0 16 (count_trailing_zeros 64 (marks_of lanes)) 0 enough (counted some) k (omega arith) (omega (arith, to)))

  pub run_stops : 0 < marks_of lanes → (r : ℕ) → r ≡ count_trailing_zeros 64 (marks_of lanes) → (get_or xs r 0 ≡ 0) ⊎ (128 ≤ get_or xs r 0)
  run_stops some r is =
      let front : 0 + r ≡ r = omega arith in
      let short : r < 16 = omega (arith, is, run_within some) in
      end_byte (get_or xs r 0) (typed r).fits (subst (λ (j : ℕ). is_end (get_or xs j 0) ≡ true) front (run_in_chunk_stops is_end xs 0 16 r 0 enough (is ∙ counted some) short))
