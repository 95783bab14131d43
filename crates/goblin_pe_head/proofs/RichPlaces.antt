-- The least places of the words of a Rich header.
use Rattle.std.proofs.Common.{◌≡◌, ℕ, Bool, true, false, cond, ◌+◌, ◌-◌, ◌<◌, ◌≤◌, ◌⊎◌, nat_lt, List, length, drop, take, refl, subst, ap, sym, ◌∙◌, inl, inr, arith, ◌==◌, Option, Some, None, IsSomeAnd, option_map, slice_range, length-take, length-take-le, take-take}
use Rattle.std.specs.Int.Bits.{bit_xor}
use Rattle.std.proofs.lemmas.Bool.{eqb-true, eq-eqb, ltb-true}
use Rattle.goblin_base.specs.declared.endian.Endian.TheVariants.{Little}
use Rattle.goblin_base.proofs.{Fronts.HaveFront, Fronts.slice-front, Numbers.number-slice}
use Rattle.goblin_base.proofs.{Numbers.read_number, Parts.find_is, Parts.find_none}
use Rattle.goblin_base.proofs.{Parts.least_place-high, Steps.mapped, Steps.same_value, Steps.step}
use Rattle.std.proofs.lemmas.Option.{cond_some}
use Rattle.goblin_pe_head.specs.DosHeader.{DosHeader}
use Rattle.goblin_pe_head.specs.HeaderLaws.{IsDansAt, IsLeast, IsMarked, IsMarkerAt, RichIsMarked, RichIsUnmarked}
use Rattle.goblin_pe_head.specs.HeaderReadings.{dos_header, rich_header}
use Rattle.goblin_pe_head.specs.RichHeader.{Rich, dans_place, is_rich, least_below, marker_place, rich_between, word_at, rich_at, rich_before, rich_in}

-- the least number that passes a test is the least place where P holds, if the test is that of P
least_is : (P : ℕ → Type 0) (test : ℕ → Bool) (n i : ℕ) → ((k : ℕ) → k < n → test k ≡ true → P k) → ((k : ℕ) → P k → (k < n) × (test k ≡ true)) → least_below n test ≡ Some i → IsLeast P i
least_is P test n i to from e =
    let is = find_is test n 0 i e in
    record {
      holds = to i (omega (arith, is.high)) is.passes;
      least = λ k lt holds. let here = from k holds in absurd (cc (here.1, is.least k (omega arith) lt));
    }

is_marker : (stretch : List ℕ) (k : ℕ) → IsMarkerAt stretch k → (k < length stretch - 7) × ((word_at stretch k == 0x68636952) ≡ true)
is_marker stretch k holds = (omega (arith, holds.0), eq-eqb (word_at stretch k) 0x68636952 holds.1)

first_marker : (stretch : List ℕ) (i : ℕ) → marker_place stretch ≡ Some i → IsLeast (IsMarkerAt stretch) i
first_marker stretch i e =
    least_is (IsMarkerAt stretch) (λ i. word_at stretch i == 0x68636952) (length stretch - 7) i
    (λ k lt passes. (omega (arith, lt), eqb-true (word_at stretch k) 0x68636952 passes)) (is_marker stretch) e

no_marker : (stretch : List ℕ) → marker_place stretch ≡ None → (k : ℕ) → ¬ IsMarkerAt stretch k
no_marker stretch e k holds =
    let is = is_marker stretch k holds in
    absurd (cc (is.1, find_none (λ i. word_at stretch i == 0x68636952) (length stretch - 7) 0 k e (omega arith) (omega (arith, is.0))))

first_dans : (key : ℕ) (stretch : List ℕ) (j : ℕ) → dans_place key stretch ≡ Some j → IsLeast (IsDansAt key stretch) j
first_dans key stretch j e =
    least_is (IsDansAt key stretch) (λ j. bit_xor (word_at stretch j) key == 0x536E6144) (length stretch - 3) j
    (λ k lt passes. (omega (arith, lt), eqb-true (bit_xor (word_at stretch k) key) 0x536E6144 passes))
    (λ k holds. (omega (arith, holds.0), eq-eqb (bit_xor (word_at stretch k) key) 0x536E6144 holds.1)) e

-- what is known of the markers of a Rich header that was read from a stretch
record IsMarkedIn (stretch : List ℕ) (r : Rich) : Type 0 where
  end : ℕ
  start : ℕ
  end_offset : r.end_offset ≡ 64 + end
  start_offset : r.start_offset ≡ 64 + start
  marker : marker_place stretch ≡ Some end
  key : r.key ≡ word_at stretch (end + 4)
  dans : dans_place r.key stretch ≡ Some start

-- the bytes through the key of the marker at i
abbrev pub stored : List ℕ → ℕ → List ℕ
stored stretch i = take (i + 8) stretch

abbrev with_front : ℕ → List ℕ → ℕ → ℕ × List ℕ
with_front width stretch i = (i, take (i + width) stretch)

pub stored-high : (stretch : List ℕ) (i : ℕ) → marker_place stretch ≡ Some i → i + 8 ≤ length stretch
stored-high stretch i is = least_place-high Little 4 4 is_rich stretch i is

-- the key is the same in the bytes through it
key_is : (stretch : List ℕ) (i : ℕ) → marker_place stretch ≡ Some i → word_at (stored stretch i) (i + 4) ≡ word_at stretch (i + 4)
key_is stretch i is =
    let high = stored-high stretch i is in
    let long : length (stored stretch i) ≡ i + 8 = length-take-le (i + 8) stretch high in
    let front : HaveFront (i + 8) (stored stretch i) stretch = record {
      in_a = omega (arith, long);
      in_b = high;
      same = take-take (i + 8) (i + 8) stretch (omega arith);
    } in
    number-slice Little 4 (stored stretch i) (i + 4)
    ∙ ap (read_number Little 4) (slice-front (i + 8) (i + 4) 4 (stored stretch i) stretch front (omega arith))
    ∙ sym (number-slice Little 4 stretch (i + 4))

-- the Rich header of a stretch, by the place of its marker
abbrev pub before_marker : List ℕ → Option ℕ → Option (Option Rich)
before_marker stretch marker = (rich_before (option_map (with_front 8 stretch) marker)).value stretch

-- the other marker of a Rich header, and what lies between them
pub record IsBetween (stretch : List ℕ) (i : ℕ) (found : Option Rich) : Type 0 where
  pub start : ℕ
  pub dans : dans_place (word_at (stored stretch i) (i + 4)) stretch ≡ Some start
  pub made : rich_between (stored stretch i) (word_at (stored stretch i) (i + 4)) start i ≡ Some found

pub between : (stretch : List ℕ) (i : ℕ) (found : Option Rich) → before_marker stretch (Some i) ≡ Some found → IsBetween stretch i found
between stretch i found e =
    let own = stored stretch i in
    let key = word_at own (i + 4) in
    let s = step (option_map (with_front 4 stretch) (dans_place key stretch)) (λ start. rich_between own key start.0 i) found e in
    let m = mapped (dans_place key stretch) (with_front 4 stretch) s.value s.is in
    record {
      start = m.value;
      dans = m.is;
      made = ap (λ (start : ℕ × List ℕ). rich_between own key start.0 i) m.made ∙ s.then;
    }

marked_before : (stretch : List ℕ) (marker : Option ℕ) (r : Rich) → marker_place stretch ≡ marker → before_marker stretch marker ≡ Some (Some r) → IsMarkedIn stretch r
marked_before stretch None r is e = absurd cc
marked_before stretch (Some i) r is e =
    let s = between stretch i (Some r) e in
    subst (IsMarkedIn stretch) (same_value _ r (cond_some _ _ (Some r) s.made).1)
    (record { end = i; start = s.start; end_offset = refl; start_offset = refl; marker = is; key = key_is stretch i is; dans = s.dans })

none_before : (stretch : List ℕ) (marker : Option ℕ) → before_marker stretch marker ≡ Some None → marker ≡ None
none_before stretch None e = refl
none_before stretch (Some i) e =
    let made = (cond_some _ _ None (between stretch i None e).made).1 in
    absurd cc

pub long_enough : (short : Bool) (found : Option (Option Rich)) (r : Rich) → cond short (Some None) found ≡ Some (Some r) → found ≡ Some (Some r)
long_enough true found r e = absurd cc
long_enough false found r e = e

short_or_none : (short : Bool) (found : Option (Option Rich)) → cond short (Some None) found ≡ Some None → (short ≡ true) ⊎ (found ≡ Some None)
short_or_none true found e = inl refl
short_or_none false found e = inr e

pub in_stretch : (stretch : List ℕ) → rich_in.value stretch ≡ before_marker stretch (marker_place stretch)
unfolding rich_in
in_stretch stretch = refl

-- the Rich header of a file is that of the stretch before its PE signature
pub record IsInStretch (bytes : List ℕ) (found : Option Rich) : Type 0 where
  pub dos : DosHeader
  pub is : dos_header.value bytes ≡ Some dos
  pub found_in : cond (nat_lt dos.pe_pointer 68) (Some None) (before_marker (slice_range bytes 64 dos.pe_pointer) (marker_place (slice_range bytes 64 dos.pe_pointer))) ≡ Some found

pub of_file : (bytes : List ℕ) (found : Option Rich) → rich_header.value bytes ≡ Some found → IsInStretch bytes found
unfolding rich_header rich_at
of_file bytes found e =
    let s = step (dos_header.value bytes) _ found e in
    let p = s.value.pe_pointer in
    record {
      dos = s.value;
      is = s.is;
      found_in = ap (λ (own : Option (Option Rich)). cond (nat_lt p 68) (Some None) own) (sym (in_stretch (slice_range bytes 64 p))) ∙ s.then;
    }

pub rich_marked : RichIsMarked
unfolding RichIsMarked
rich_marked bytes r e =
    let s = of_file bytes (Some r) e in
    let p = s.dos.pe_pointer in
    let stretch = slice_range bytes 64 p in
    let is = marked_before stretch (marker_place stretch) r refl (long_enough (nat_lt p 68) (before_marker stretch (marker_place stretch)) r s.found_in) in
    let marked : IsMarked bytes p r = record {
      end = is.end;
      start = is.start;
      end_offset = is.end_offset;
      start_offset = is.start_offset;
      marker = first_marker stretch is.end is.marker;
      key = is.key;
      dans = first_dans r.key stretch is.start is.dans;
    } in
    subst (λ (o : Option DosHeader). IsSomeAnd o (λ dos. IsMarked bytes dos.pe_pointer r)) (sym s.is) marked

pub rich_unmarked : RichIsUnmarked
unfolding RichIsUnmarked
rich_unmarked bytes e =
    let s = of_file bytes None e in
    let p = s.dos.pe_pointer in
    let stretch = slice_range bytes 64 p in
    let none : (i : ℕ) → ¬ IsMarkerAt stretch i = elim (short_or_none (nat_lt p 68) (before_marker stretch (marker_place stretch)) s.found_in) [
      | inl short ↦ λ i holds. absurd (omega (arith, ltb-true p 68 short, length-take (p - 64) (drop 64 bytes), holds.0))
      | inr found ↦ no_marker stretch (none_before stretch (marker_place stretch) found)
    ] in
    subst (λ (o : Option DosHeader). IsSomeAnd o (λ dos. (i : ℕ) → ¬ IsMarkerAt (slice_range bytes 64 dos.pe_pointer) i)) (sym s.is) none
