-- The entries of a Rich header that was read are its data.
use Rattle.std.proofs.Common.{◌≡◌, ℕ, Bool, zero, suc, ◌+◌, ◌-◌, ◌*◌, ◌/◌, ◌%◌, ◌<◌, ◌≤◌, List, ◌++◌, length, map, take, drop, take_all, refl, sym, ap, subst, ◌∙◌, inl, inr, arith, ◌&&◌, ◌==◌, nat_lt, Option, Some, None, slice_range, flat_map, take-add, unwrap_or}
use Rattle.std.specs.{List.range_with_len, Int.Bits.bit_xor}
use Rattle.std.proofs.lemmas.Bool.{cases_lt, eqb-true, and_parts}
use Rattle.std.proofs.lemmas.List.{drop-drop, length-drop, length-take, length-take-le, take-append-drop}
use Rattle.std.proofs.{lemmas.List.Concat.flat_map-cons, lemmas.Option.cond_some}
use Rattle.goblin_base.specs.{declared.endian.Endian.TheVariants.Little, Bytes.IsBytes}
use Rattle.goblin_base.specs.{Bytes.number_bytes, Tables.record_items, Tables.records_in}
use Rattle.goblin_base.proofs.{Numbers.rest_is_drop, Parts.find_is, Steps.same_value}
use Rattle.goblin_base.proofs.RecordRoundTrip.{bytes_after, IsBytes-range, IsBytes-slice, IsBytes-take, length-slice, slice-is, number_bytes-number}
use Rattle.goblin_pe_head.specs.HeaderReadings.{rich_header}
use Rattle.goblin_pe_head.specs.RichHeader.{Rich, leading_words, least_below, marker_place, other_place, rich_between, rich_value, word_at}
use Rattle.goblin_pe_head.specs.RichMetadata.{AreEntriesOf, metadata_at, metadata_items, stored_entry, word_under, RichMetadata}
use Rattle.goblin_pe_head.specs.declared.header.rich.RichHeader.{RichHeader}
use Rattle.goblin_pe_head.proofs.RichPlaces.{before_marker, between, long_enough, of_file, stored, stored-high}
use Rattle.goblin_pe_head.proofs.WordPlaces.{cancelled}

-- an entry is stored as the bytes that it was read from
stored_entry-metadata_at : (key : ℕ) (bytes : List ℕ) (p : ℕ) → IsBytes bytes → p + 8 ≤ length bytes → stored_entry key (metadata_at key bytes p) ≡ take 8 (drop p bytes)
stored_entry-metadata_at key bytes p h le =
    let w = word_under key bytes p in
    let whole : w / 65536 * 65536 + w % 65536 ≡ w = omega arith in
    let first : number_bytes Little 4 (bit_xor (w / 65536 * 65536 + w % 65536) key) ≡ slice_range bytes p (p + 4) =
    ap (λ (x : ℕ). number_bytes Little 4 (bit_xor x key)) whole ∙ ap (number_bytes Little 4) (cancelled (word_at bytes p) key) ∙ number_bytes-number Little 4 bytes p h (omega arith) in
    let second : number_bytes Little 4 (bit_xor (word_under key bytes (p + 4)) key) ≡ slice_range bytes (p + 4) (p + 4 + 4) =
    ap (number_bytes Little 4) (cancelled (word_at bytes (p + 4)) key) ∙ number_bytes-number Little 4 bytes (p + 4) h (omega arith) in
    let e1 : p + 4 - p ≡ 4 = omega arith in
    let e2 : p + 4 + 4 - (p + 4) ≡ 4 = omega arith in
    rw (first, second, e1, e2) (sym (take-add 4 4 (drop p bytes) ∙ ap (λ (xs : List ℕ). take 4 (drop p bytes) ++ take 4 xs) (drop-drop 4 p bytes)))

-- the same of the entry in a slice of its own
stored_entry-in : (key : ℕ) (bytes : List ℕ) (p : ℕ) → IsBytes bytes → p + 8 ≤ length bytes → stored_entry key (metadata_at key (slice_range bytes p (p + 8)) 0) ≡ take 8 (drop p bytes)
stored_entry-in key bytes p h le =
    let own = slice_range bytes p (p + 8) in
    let long : length own ≡ 8 = length-slice bytes p 8 le in
    stored_entry-metadata_at key own 0 (IsBytes-slice bytes p 8 h) (omega (arith, long)) ∙ take_all 8 own (omega (arith, long)) ∙ slice-is bytes p 8

-- n entries from the a-th on are stored as the bytes that they were read from
stored_entries : (key : ℕ) (bytes : List ℕ) (n a : ℕ) → IsBytes bytes → 8 * (a + n) ≤ length bytes
    → flat_map (stored_entry key) (map (λ i. metadata_at key (slice_range bytes (8 * i) (8 * i + 8)) 0) (range_with_len a n)) ≡ take (8 * n) (drop (8 * a) bytes)
stored_entries key bytes zero a h le = refl
stored_entries key bytes (suc n) a h le =
    let f : ℕ → RichMetadata = λ (i : ℕ). metadata_at key (slice_range bytes (8 * i) (8 * i + 8)) 0 in
    let first = stored_entry-in key bytes (8 * a) h (omega arith) in
    let rest = stored_entries key bytes n (a + 1) h (omega arith) in
    let next : 8 * (a + 1) ≡ 8 * a + 8 = omega arith in
    let size : 8 * suc n ≡ 8 + 8 * n = omega arith in
    let after : take (8 * n) (drop (8 * (a + 1)) bytes) ≡ take (8 * n) (drop 8 (drop (8 * a) bytes)) = rw (next, drop-drop 8 (8 * a) bytes) refl in
    flat_map-cons (stored_entry key) (f a) (map f (range_with_len (a + 1) n)) ∙ ap (λ (xs : List ℕ). xs ++ flat_map (stored_entry key) (map f (range_with_len (a + 1) n))) first
    ∙ ap (λ (xs : List ℕ). take 8 (drop (8 * a) bytes) ++ xs) (rest ∙ after) ∙ sym (ap (λ (k : ℕ). take k (drop (8 * a) bytes)) size ∙ take-add 8 (8 * n) (drop (8 * a) bytes))

-- whole words are entries up to a rest of one word
words_are_entries : (key : ℕ) (bytes : List ℕ) → IsBytes bytes → length bytes % 4 ≡ 0 → AreEntriesOf key bytes (metadata_items key bytes)
unfolding metadata_items record_items records_in
words_are_entries key bytes h words =
    let n = length bytes / 8 in
    let left : length (drop (8 * n) bytes) ≡ length bytes % 8 = omega (arith, length-drop (8 * n) bytes) in
    record {
      entries = records_in 8 (λ entry. metadata_at key entry 0) bytes;
      rest = drop (8 * n) bytes;
      are = rw left refl;
      joined = sym (ap (λ (xs : List ℕ). xs ++ drop (8 * n) bytes) (stored_entries key bytes n 0 h (omega arith)) ∙ take-append-drop (8 * n) bytes);
      short = elim (cases_lt (length bytes % 8) 1) [
        | inl none ↦ inl (omega (arith, left, none))
        | inr some ↦ inr (omega (arith, left, some, words))
      ];
    }

-- the first of n numbers that passes is one of them
least_below-lt : (n : ℕ) (test : ℕ → Bool) (i : ℕ) → least_below n test ≡ Some i → i < n
least_below-lt n test i e = let is = find_is test n 0 i e in omega (arith, is.high)

pub words_below : (o : Option ℕ) (n : ℕ) → ((k : ℕ) → o ≡ Some k → k < n) → unwrap_or o n ≤ n
words_below None n h = omega arith
words_below (Some k) n h = let lt = h k refl in omega (arith, lt)

-- the leading words are within the data
leading_words-le : (key : ℕ) (bytes : List ℕ) → leading_words key bytes ≤ length bytes / 4
unfolding leading_words other_place
leading_words-le key bytes = words_below (other_place key bytes) (length bytes / 4) (λ k e. least_below-lt (length bytes / 4) _ k e)

-- what is known of a Rich header that was read from a stretch
record IsRichOf (stretch : List ℕ) (r : Rich) : Type 0 where
  pub start : ℕ
  pub end : ℕ
  pub inside : end ≤ length stretch
  pub words : (end - start) % 4 ≡ 0
  pub bytes : r.bytes ≡ slice_range stretch start end
  pub padding : r.padding_size ≡ 4 * leading_words r.key r.bytes

rich_between-is : (stretch : List ℕ) (key j i : ℕ) (r : Rich) → i ≤ length stretch → rich_between stretch key j i ≡ Some (Some r) → IsRichOf stretch r
rich_between-is stretch key j i r inside e =
    let both = cond_some (nat_lt (j + 4) i && ((i - j - 4) % 4 == 0)) _ (Some r) e in
    let tests = and_parts (nat_lt (j + 4) i) ((i - j - 4) % 4 == 0) both.0 in
    let words : (i - j - 4) % 4 ≡ 0 = eqb-true ((i - j - 4) % 4) 0 tests.1 in
    let same : i - (j + 4) ≡ i - j - 4 = omega arith in
    subst (IsRichOf stretch) (same_value _ r both.1) (record { start = j + 4; end = i; inside = inside; words = rw same words; bytes = refl; padding = refl })

-- the data after the padding are entries
entries_after : (stretch : List ℕ) (r : Rich) → IsBytes stretch → IsRichOf stretch r → AreEntriesOf r.key (drop r.padding_size r.bytes) (metadata_items r.key (drop r.padding_size r.bytes))
entries_after stretch r h is =
    let own : IsBytes r.bytes = subst IsBytes (sym is.bytes) (IsBytes-range stretch is.start is.end h) in
    let size : length r.bytes ≡ is.end - is.start = ap length is.bytes ∙ omega (arith, length-take (is.end - is.start) (drop is.start stretch), length-drop is.start stretch, is.inside) in
    let most = leading_words-le r.key r.bytes in
    let words : length (drop r.padding_size r.bytes) % 4 ≡ 0 = omega (arith, length-drop r.padding_size r.bytes, size, is.words, is.padding, most) in
    words_are_entries r.key (drop r.padding_size r.bytes) (bytes_after r.bytes r.padding_size own) words

in_stretch : (stretch : List ℕ) (marker : Option ℕ) (r : Rich) → IsBytes stretch → marker_place stretch ≡ marker → before_marker stretch marker ≡ Some (Some r)
    → AreEntriesOf r.key (drop r.padding_size r.bytes) (metadata_items r.key (drop r.padding_size r.bytes))
in_stretch stretch None r h is e = absurd cc
in_stretch stretch (Some i) r h is e =
    let own = stored stretch i in
    let s = between stretch i (Some r) e in
    let long : length own ≡ i + 8 = length-take-le (i + 8) stretch (stored-high stretch i is) in
    entries_after own r (IsBytes-take (i + 8) stretch h) (rich_between-is own (word_at own (i + 4)) s.start i r (omega (arith, long)) s.made)

-- the entries of a Rich header that was read are its data after the padding
pub rich_entries : (header : RichHeader) (bytes : List ℕ) → IsBytes bytes → rich_header.value bytes ≡ Some (Some (rich_value header))
    → AreEntriesOf header.key (drop header.padding_size header.bytes.now) (metadata_items header.key (slice_range header.bytes.now header.padding_size (length header.bytes.now)))
rich_entries header bytes h e =
    let s = of_file bytes (Some (rich_value header)) e in
    let p = s.dos.pe_pointer in
    let stretch = slice_range bytes 64 p in
    let found = long_enough (nat_lt p 68) (before_marker stretch (marker_place stretch)) (rich_value header) s.found_in in
    let n = header.padding_size in
    let own = header.bytes.now in
    rw (rest_is_drop own n) (in_stretch stretch (marker_place stretch) (rich_value header) (IsBytes-range bytes 64 p h) refl found)
