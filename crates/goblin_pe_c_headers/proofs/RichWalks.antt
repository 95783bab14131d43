-- The walk over the entries of a Rich header that was read gives its own.
use Rattle.std.proofs.Common.{◌≡◌, ◌∙◌, ℕ, ◌+◌, ◌-◌, ◌*◌, ◌/◌, ◌%◌, ◌^◌, ◌<◌, ◌≤◌, ◌==◌, ◌&&◌, Bool, true, false, cond, List, [], drop, take, length, refl, ap, sym, subst, arith, Option, Some, None, IfSome, nat_le, nat_lt, slice_range, length-take, length-drop, leb-true, drop_of_length-le}
use Rattle.std.proofs.lemmas.Bool.{and_parts, ltb-true}
use Rattle.std.proofs.{lemmas.Bool.Decides.nat_tests, lemmas.Option.cond_some}
use Rattle.goblin_base.specs.declared.endian.Endian.TheVariants.{Little}
use Rattle.goblin_base.specs.Bytes.{IsBytes, number, slice_at}
use Rattle.goblin_base.proofs.Numbers.{rest_is_drop, slice-of_slice, slice_at-inside}
use Rattle.goblin_base.proofs.{Parts.find_is, Records.record_at-some, Steps.same_value, Steps.step}
use Rattle.goblin_base.proofs.RecordRoundTrip.{IsBytes-slice, length-slice, number-lt}
use Rattle.goblin_pe_head.specs.{declared.header.dos.DosHeader.DosHeader, DosHeader.dos_record}
use Rattle.goblin_pe_head.specs.HeaderReadings.{dos_header, rich_header}
use Rattle.goblin_pe_head.specs.RichHeader.{Rich, leading_words, marker_place, other_place, word_at, rich_at}
use Rattle.goblin_pe_head.proofs.PeHeaderRoundTrip.{dos_of, parts_of}
use Rattle.goblin_pe_head.proofs.RichPlaces.{before_marker, between, in_stretch, long_enough, stored, stored-high}
use Rattle.goblin_pe_head.proofs.RichLaw.{words_below}
use Rattle.goblin_pe_c_headers.specs.RichHeaders.{HeaderIsWalked, IsWalked, RichIsWalked}

-- ---- the padding is within the data

padding_fits : (key : ℕ) (bytes : List ℕ) → 4 * leading_words key bytes ≤ length bytes
unfolding leading_words other_place
padding_fits key bytes =
    let most = words_below (other_place key bytes) (length bytes / 4) (λ k e. let is = find_is _ (length bytes / 4) 0 k e in omega (arith, is.high)) in
    omega (arith, most)

-- ---- the data in the file

-- bytes between two places of a stretch are bytes of the file
module _ (bytes : List ℕ) (p : ℕ) where
  abbrev stretch : List ℕ
  stretch = slice_range bytes 64 p

  range_of_file : (i q m : ℕ) → i + 8 ≤ length stretch → q + m ≤ i → slice_range (stored stretch i) q (q + m) ≡ slice_range bytes (64 + q) (64 + q + m)
  range_of_file i q m high inside =
      let long = length-take (p - 64) (drop 64 bytes) in
      let front : 0 + (i + 8) - 0 ≡ i + 8 = omega arith in
      let end : 64 + (p - 64) ≡ p = omega (arith, high, long) in
      ap (λ (n : ℕ). slice_range (take n stretch) q (q + m)) (sym front) ∙ slice-of_slice stretch 0 (i + 8) q m (omega (arith, inside))
      ∙ ap (λ (k : ℕ). slice_range stretch k (k + m)) (let same : 0 + q ≡ q = omega arith in same)
      ∙ ap (λ (k : ℕ). slice_range (slice_range bytes 64 k) q (q + m)) (sym end)
      ∙ slice-of_slice bytes 64 (p - 64) q m (omega (arith, high, inside, long))

-- what is left of bytes of the file after some of them
rest_of_range : (bytes : List ℕ) (q m n : ℕ) → n ≤ m → q + m ≤ length bytes → drop n (slice_range bytes q (q + m)) ≡ slice_range bytes (q + n) (q + n + (m - n))
rest_of_range bytes q m n le inside =
    let own = slice_range bytes q (q + m) in
    let long : length own ≡ n + (m - n) = omega (arith, length-slice bytes q m inside, le) in
    sym (rest_is_drop own n) ∙ ap (λ (k : ℕ). slice_range own n k) long ∙ slice-of_slice bytes q m n (m - n) (omega (arith, le))

-- ---- the entries

-- what lies between the markers, after the padding, is what the record leads to
between_markers : (bytes : List ℕ) (q m n : ℕ) → q + m ≤ length bytes
    → cond (nat_le (q + m) (q + n)) (Some []) (slice_at bytes (q + n) (q + m - (q + n))) ≡ Some (drop n (slice_range bytes q (q + m)))
between_markers bytes q m n inside = by (nat_le (q + m) (q + n)) refl
  where
    by : (b : Bool) → nat_le (q + m) (q + n) ≡ b → cond b (Some []) (slice_at bytes (q + n) (q + m - (q + n))) ≡ Some (drop n (slice_range bytes q (q + m)))
    by true past =
        let le = leb-true (q + m) (q + n) past in
        let long = length-take (q + m - q) (drop q bytes) in
        ap (λ (xs : List ℕ). Some xs) (sym (drop_of_length-le (slice_range bytes q (q + m)) (omega (arith, le, long))))
    by false before =
        let lt : n < m = grind (arith, nat_tests, before) in
        let left : q + m - (q + n) ≡ m - n = omega arith in
        ap (λ (k : ℕ). slice_at bytes (q + n) k) left
        ∙ slice_at-inside bytes (q + n) (m - n) (omega (arith, lt, inside)) (omega (arith, lt, inside))
        ∙ ap (λ (xs : List ℕ). Some xs) (sym (rest_of_range bytes q m n (omega (arith, lt)) inside))

record_leads : (bytes own : List ℕ) (q m n begin end : ℕ) → q + m ≤ length bytes → own ≡ slice_range bytes q (q + m) → begin ≡ q + n → end ≡ q + m
    → cond (nat_le end begin) (Some []) (slice_at bytes begin (end - begin)) ≡ Some (drop n own)
record_leads bytes own q m n begin end inside is from to = rw (is, from, to) (between_markers bytes q m n inside)

module _ (bytes : List ℕ) (p : ℕ) (small : p < 2 ^ 32) where
  -- between markers that were found
  found_walked : (i j : ℕ) (key : ℕ) → i + 8 ≤ length (stretch bytes p) → j + 4 < i
      → let own = slice_range (stored (stretch bytes p) i) (j + 4) i in
      IsWalked bytes (record { key = key; bytes = own; padding_size = 4 * leading_words key own; start_offset = 64 + j; end_offset = 64 + i })
  found_walked i j key high ordered =
      let own = slice_range (stored (stretch bytes p) i) (j + 4) i in
      let n = 4 * leading_words key own in
      let m = i - (j + 4) in
      let end : j + 4 + m ≡ i = omega (arith, ordered) in
      let wide = length-take (p - 64) (drop 64 bytes) in
      let file = length-drop 64 bytes in
      let long = length-take (i - (j + 4)) (drop (j + 4) (stored (stretch bytes p) i)) in
      let fits = padding_fits key own in
      let same : own ≡ slice_range bytes (64 + (j + 4)) (64 + (j + 4) + m) =
      ap (λ (k : ℕ). slice_range (stored (stretch bytes p) i) (j + 4) k) (sym end) ∙ range_of_file bytes p i (j + 4) m high (omega (arith, ordered)) in
      let narrow : n < 2 ^ 32 = omega (arith, fits, long, high, wide, small) in
      let from : 64 + j + 4 + n % 2 ^ 32 ≡ 64 + (j + 4) + n = omega (arith, narrow) in
      let to : 64 + i ≡ 64 + (j + 4) + m = omega (arith, end) in
      record {
        padding = narrow;
        entries = record_leads bytes own (64 + (j + 4)) m n (64 + j + 4 + n % 2 ^ 32) (64 + i) (omega (arith, end, high, wide, file)) same from to;
      }

  by_marker : (marker : Option ℕ) (r : Rich) → marker_place (stretch bytes p) ≡ marker → before_marker (stretch bytes p) marker ≡ Some (Some r) → IsWalked bytes r
  by_marker None r is e = absurd cc
  by_marker (Some i) r is e =
      let s = between (stretch bytes p) i (Some r) e in
      let key = word_at (stored (stretch bytes p) i) (i + 4) in
      let own = slice_range (stored (stretch bytes p) i) (s.start + 4) i in
      let made : Rich = record { key = key; bytes = own; padding_size = 4 * leading_words key own; start_offset = 64 + s.start; end_offset = 64 + i } in
      let both = cond_some (nat_lt (s.start + 4) i && ((i - s.start - 4) % 4 == 0)) (Some made) (Some r) s.made in
      let tests = and_parts (nat_lt (s.start + 4) i) ((i - s.start - 4) % 4 == 0) both.0 in
      subst (IsWalked bytes) (same_value made r both.1) (found_walked i s.start key (stored-high (stretch bytes p) i is) (ltb-true (s.start + 4) i tests.0))

  -- of a Rich header before a signature at p
  walked_at : (r : Rich) → (rich_at p).value bytes ≡ Some (Some r) → IsWalked bytes r
  unfolding rich_at
  walked_at r e =
      let own = stretch bytes p in
      by_marker (marker_place own) r refl
      (long_enough (nat_lt p 68) (before_marker own (marker_place own)) r (ap (λ (found : Option (Option Rich)). cond (nat_lt p 68) (Some None) found) (sym (in_stretch own)) ∙ e))

-- a signature's offset has 32 bits
signature_below : (bytes : List ℕ) (dos : DosHeader) → IsBytes bytes → dos_header.value bytes ≡ Some dos → dos.pe_pointer < 2 ^ 32
signature_below bytes dos h e =
    let own = record_at-some 64 (dos_record Little) bytes 0 dos (dos_of bytes dos e).own in
    let front = slice_range bytes 0 64 in
    let below = number-lt Little 4 front 60 (IsBytes-slice bytes 0 64 h) in
    let same : dos.pe_pointer ≡ number Little 4 front 60 = ap (λ (d : DosHeader). d.pe_pointer) own.is in
    omega (arith, below, same)

-- of a file's Rich header
pub rich_is_walked : RichIsWalked
unfolding RichIsWalked rich_header
rich_is_walked bytes r h e =
    let s = step (dos_header.value bytes) _ (Some r) e in
    walked_at bytes s.value.pe_pointer (signature_below bytes s.value h s.is) r s.then

with_rich : (bytes : List ℕ) (p : ℕ) → p < 2 ^ 32 → (rich : Option Rich) → (rich_at p).value bytes ≡ Some rich → IfSome rich (IsWalked bytes)
with_rich bytes p small None e = tt
with_rich bytes p small (Some r) e = walked_at bytes p small r e

-- and of the header's
pub header_is_walked : HeaderIsWalked
unfolding HeaderIsWalked
header_is_walked strict bytes h own e =
    let parts = parts_of strict bytes h e in
    with_rich bytes h.dos_header.pe_pointer (signature_below bytes h.dos_header own parts.dos) h.rich_header parts.rich
