-- The whole entries of a table of a given count: as bytes, and as values.
use Rattle.std.proofs.Common.{◌≡◌, ◌<◌, ◌≤◌, ◌++◌, ◌+◌, ◌-◌, ◌*◌, ◌/◌, ℕ, zero, suc, List, [], drop, length, map, Option, Some, None, refl, sym, ap, ◌∙◌, arith, add-one, inl, inr, length-drop, length-take, is_none, length-append, replicate, min, option_map, option_to_list, slice_get, slice_range}
use Rattle.std.specs.List.{range_with_len}
use Rattle.std.proofs.lemmas.List.{length-replicate}
use Rattle.std.proofs.Math.Nat.{mul-div_cancel_left, mul-le-mul_left, zero-div}
use Rattle.std.proofs.lemmas.Bool.{cases_lt}
use Rattle.std.proofs.lemmas.List.FromFn.{get_or-map-range_with_len, length-map-range_with_len, map-range_with_len_more}
use Rattle.std.proofs.lemmas.Option.{slice_get-get_or, slice_get_past}
use Rattle.goblin_base.specs.Bytes.{slice_at}
use Rattle.goblin_base.specs.Tables.{Format, concat_below, counted_table, counted_table_if, entry_at, records_in, whole_entries}
use Rattle.goblin_base.proofs.Below.{least-is}
use Rattle.goblin_base.proofs.InMemory.{entry_inside, entry_outside}
use Rattle.goblin_base.proofs.Numbers.{slice-of_slice, slice_at-inside, slice_at-past}
use Rattle.goblin_base.proofs.RecordItems.{length-records_in, records_in-none}
use Rattle.goblin_pe_export.specs.ExportRecords.{entries_in, name_pointers, ordinals, table_bytes}

-- ---- entries of w bytes among n bytes

next-entry : (w i : ℕ) → w * suc i ≡ w * i + w
next-entry w i = grind arith

-- where there is an entry, those that are counted end inside
pub entries_inside : (w n o count : ℕ) → 0 < w → 0 < min ((n - o) / w) count
    → o + w * min ((n - o) / w) count ≤ n
entries_inside w n o count wide some =
    let k : ℕ = min ((n - o) / w) count in
    let fits : w * k ≤ w * ((n - o) / w) = mul-le-mul_left w (omega arith) in
    let all : w * ((n - o) / w) ≤ n - o = omega (arith, wide) in
    omega (arith, fits, all)

-- the entry at an index is that of its bytes
pub entry_read : {V : Type 0} (w : ℕ) (value : List ℕ → V) (bytes : List ℕ) (i : ℕ) → 0 < w
    → slice_get (records_in w value bytes) i ≡ option_map value (slice_at bytes (w * i) w)
unfolding records_in
entry_read {V} w value bytes i wide =
    let of : ℕ → V = λ (j : ℕ). value (slice_range bytes (w * j) (w * j + w)) in
    let n = length bytes / w in
    let long : length (map of (range_with_len 0 n)) ≡ n = length-map-range_with_len of 0 n in
    elim (cases_lt i n) [
      | inl inside ↦
          let ends = entry_inside w (length bytes) i wide inside in
          let there = slice_at-inside bytes (w * i) w (omega (arith, wide, ends)) ends in
          slice_get-get_or (map of (range_with_len 0 n)) i (of i) (omega (arith, long, inside))
          ∙ ap (λ (x : V). Some x)
          (get_or-map-range_with_len of 0 n i i (of i) inside (omega arith))
          ∙ sym (ap (option_map value) there)
      | inr outside ↦
          let none =
          slice_at-past bytes (w * i) w (entry_outside w (length bytes) i wide outside) in
          slice_get_past (map of (range_with_len 0 n)) i (omega (arith, long, outside))
          ∙ sym (ap (option_map value) none)
    ]

-- this many entries are there
pub entry_count : {V : Type 0} (w : ℕ) (value : List ℕ → V) (bytes : List ℕ)
    → length (records_in w value bytes) ≡ length bytes / w
entry_count w value bytes = length-records_in w value bytes

-- ---- a table of a given count

-- pieces that are all there
concat-there : {V : Type 0} (entry : ℕ → Option V) (of : ℕ → V) (n : ℕ)
    → ((i : ℕ) → i < n → entry i ≡ Some (of i))
    → concat_below (λ i. option_to_list (entry i)) n ≡ map of (range_with_len 0 n)
concat-there entry of zero there = refl
concat-there entry of (suc n) there =
    let before = concat-there entry of n (λ i l. there i (omega arith)) in
    let here = there n (omega arith) in
    let more = map-range_with_len_more of 0 n n (omega arith) in
    rw (before, here) (sym (ap (λ (k : ℕ). map of (range_with_len 0 k)) (sym (add-one n)) ∙ more))

module _ {V : Type 0} (format : Format V) (count : ℕ) (bytes : List ℕ) (o : ℕ)
    (wide : 0 < format.width) where
  abbrev room : ℕ
  room = (length bytes - o) / format.width

  abbrev held : List ℕ
  held = table_bytes format.width count bytes (Some o)

  abbrev entry : ℕ → Option V
  entry i = entry_at format bytes o i

  abbrev of : ℕ → V
  of i =
      format.value_of (slice_range held (format.width * i) (format.width * i + format.width))

  entry-there : (i : ℕ) → i < min room count → entry i ≡ Some (of i)
  entry-there i h =
      let w : ℕ = format.width in
      let n : ℕ = min room count in
      let inside : w * i + w ≤ length bytes - o =
      entry_inside w (length bytes - o) i wide (omega arith) in
      let below : w * suc i ≤ w * n = mul-le-mul_left w h in
      let within : w * i + w ≤ w * n = omega (arith, below, next-entry w i) in
      let there =
      slice_at-inside bytes (o + w * i) w (omega (arith, inside, wide)) (omega (arith, inside, wide)) in
      let part = slice-of_slice bytes o (w * n) (w * i) w within in
      ap (option_map format.value_of) there
      ∙ ap (λ (own : List ℕ). Some (format.value_of own)) (sym part)

  entry-missing : min room count < count → entry (min room count) ≡ None
  entry-missing h =
      let w : ℕ = format.width in
      let n : ℕ = min room count in
      let past : length bytes - o < w * n + w =
      entry_outside w (length bytes - o) n wide (omega arith) in
      let none = slice_at-past bytes (o + w * n) w (omega (arith, past)) in
      ap (option_map format.value_of) none

  pub whole-is : whole_entries format count bytes o ≡ min room count
  unfolding whole_entries
  whole-is =
      least-is (λ i. is_none (entry i)) count (min room count) (omega arith)
      (λ j l. ap is_none (entry-there j l)) (λ l. ap is_none (entry-missing l))

  held-length : length held ≡ format.width * min room count
  held-length =
      let w : ℕ = format.width in
      let n : ℕ = min room count in
      let fits : w * n ≤ w * room = mul-le-mul_left w (omega arith) in
      let all : w * room ≤ length bytes - o = omega (arith, wide) in
      omega (arith, length-take (o + w * n - o) (drop o bytes), length-drop o bytes, fits, all)

  held-count : length held / format.width ≡ min room count
  held-count =
      ap (λ (m : ℕ). m / format.width) held-length
      ∙ mul-div_cancel_left (min room count) wide

  some-is : counted_table format count bytes o ≡ entries_in format held
  unfolding counted_table records_in
  some-is =
      ap (concat_below (λ i. option_to_list (entry i))) whole-is
      ∙ concat-there entry of (min room count) entry-there
      ∙ ap (λ (m : ℕ). map of (range_with_len 0 m)) (sym held-count)

-- the entries of a table are those that its bytes hold
pub counted_is : {V : Type 0} (format : Format V) (count : ℕ) (bytes : List ℕ)
    (place : Option ℕ) → 0 < format.width
    → counted_table_if format count bytes place
    ≡ records_in format.width format.value_of (table_bytes format.width count bytes place)
unfolding counted_table_if
counted_is format count bytes None wide =
    sym (records_in-none format.width format.value_of [] (zero-div format.width))
counted_is format count bytes (Some o) wide = some-is format count bytes o wide

-- no bytes hold no entries
pub no_pointers : entries_in name_pointers [] ≡ []
unfolding records_in
no_pointers = refl

pub no_ordinals : entries_in ordinals [] ≡ []
unfolding records_in
no_ordinals = refl

pub ruleset no_names = (no_pointers, no_ordinals)

-- how many bytes and zeros there are
pub count_bytes : (xs : List ℕ) (n : ℕ) → length (xs ++ replicate n 0) ≡ length xs + n
count_bytes xs n =
    omega (arith, length-append xs (replicate n 0), length-replicate {A = ℕ} n 0)
