-- The entries of the data directories: read and written one after the other, and walked by their kinds.
use Rattle.std.proofs.Common.{◌≡◌, ◌≢◌, ℕ, zero, suc, ◌+◌, ◌-◌, ◌*◌, ◌<◌, ◌≤◌, true, false, nat_le, nat_lt, List, [], ◌∷◌, ◌++◌, length, drop, get_or, set, map, Option, Some, None, refl, sym, ap, ◌∙◌, inl, inr, add-one, arith, ◌==◌, ◌&&◌, ◌||◌, if◌then◌else◌, slice_range, zip, filter_map}
use Rattle.std.specs.List.{cons_option, range_with_len}
use Rattle.std.proofs.lemmas.Bool.{and_parts, eqb-true, leb-true, or_cases, le-leb, lt-leb, lt-ltb, le-ltb, ne_eqb, eq-eqb, cases_eq, cases_lt}
use Rattle.std.proofs.{lemmas.Option.cond_some, lemmas.Slice.Zip.length-zip}
use Rattle.std.proofs.lemmas.List.Concat.{flat_map-cons}
use Rattle.std.proofs.lemmas.List.{append-nil, at_drop_more, drop_all, length-drop, take_all, get_or-set_same, get_or-set_other, length-set}
use Rattle.std.proofs.lemmas.List.FromFn.{fill_by_all, get_or-map-range_with_len, length-map-range_with_len}
use Rattle.goblin_base.specs.declared.endian.Endian.{Endian}
use Rattle.goblin_base.specs.declared.endian.Endian.TheVariants.{Little}
use Rattle.goblin_base.specs.declared.error.ErrorOf.{ErrorOf}
use Rattle.goblin_base.specs.declared.error.ErrorOf.TheVariants.{Read}
use Rattle.goblin_base.specs.declared.error.ReadFault.TheVariants.{BadOffset, TooBig}
use Rattle.goblin_base.specs.Bytes.{replaced, slice_at}
use Rattle.goblin_base.specs.Answers.{IsFirstMissing, IsSliceFault}
use Rattle.goblin_base.specs.Record.{FieldValue, encoding, record_at, total_width}
use Rattle.goblin_base.proofs.Numbers.{slice_at-inside, slice_at-past}
use Rattle.goblin_base.proofs.Records.{record_at-some}
use Rattle.goblin_base.proofs.Writing.{IsPutting, encoding_append, length-replaced, length_encoding, replaced_then}
use Rattle.goblin_pe_sect.specs.DataDirectories.{DataDirectory, directory_fields, directory_or_zeros, directory_record, entries_fields, entry_ending, kinds, present_from, with_kind}
use Rattle.goblin_pe_sect.specs.declared.data_directories.DataDirectoryType.{DataDirectoryType}
use Rattle.goblin_pe_sect.specs.declared.data_directories.DataDirectoryType.TheVariants.{ExportTable}

-- the entry at index i of `count` that lie one after the other from p on, with the offset just
-- past it; one past the count is none
abbrev pub directory_entry_at : ℕ → List ℕ → ℕ → ℕ → Option (ℕ × DataDirectory)
directory_entry_at count bytes p i =
    if nat_lt i count
    then entry_ending (p + 8 * i + 8)
    (directory_record Little (slice_range bytes (p + 8 * i) (p + 8 * i + 8)))
    else None

-- the sixteen entries: the first `count` lie one after the other from p on, if `count` is no more
-- than sixteen, and the file has room for them
unfoldable pub entries_in_room : ℕ → List ℕ → ℕ → Option (List (Option (ℕ × DataDirectory)))
entries_in_room count bytes p =
    if nat_le count 16 && (count == 0 || nat_le (p + 8 * count) (length bytes))
    then Some (map (directory_entry_at count bytes p) (range_with_len 0 16))
    else None

-- entries that pass the end are refused
past_end : (count : ℕ) (bytes : List ℕ) (p : ℕ) → 0 < count → length bytes < p + 8 * count → entries_in_room count bytes p ≡ None
unfolding entries_in_room
past_end count bytes p some past =
    let more : (count == 0) ≡ false = ne_eqb count 0 (λ e. omega arith) in
    elim (nat_le count 16) as (λ b. (if b && (count == 0 || nat_le (p + 8 * count) (length bytes)) then Some (map (directory_entry_at count bytes p) (range_with_len 0 16)) else None) ≡ None) [
      | true ↦ rw (more, lt-leb _ _ past) refl
      | false ↦ refl
    ]

-- entries for which there is room are there
pub entries_there : (count : ℕ) (bytes : List ℕ) (p : ℕ) → count ≤ 16 → (0 < count → p + 8 * count ≤ length bytes)
    → entries_in_room count bytes p ≡ Some (map (directory_entry_at count bytes p) (range_with_len 0 16))
unfolding entries_in_room
entries_there count bytes p most room =
    let few : nat_le count 16 ≡ true = le-leb count 16 most in
    elim (cases_eq count 0) [
      | inl none ↦ rw (few, eq-eqb count 0 none) refl
      | inr some ↦ rw (few, ne_eqb count 0 some, le-leb (p + 8 * count) (length bytes) (room (omega (arith, some)))) refl
    ]

-- what entries that were read are
pub record AreEntries (count : ℕ) (bytes : List ℕ) (p : ℕ) (entries : List (Option (ℕ × DataDirectory))) : Type 0 where
  pub few : count ≤ 16
  pub room : 0 < count → p + 8 * count ≤ length bytes
  pub are : map (directory_entry_at count bytes p) (range_with_len 0 16) ≡ entries
  pub sixteen : length entries ≡ 16
  pub each : (k : ℕ) → k < 16 → get_or entries k None ≡ directory_entry_at count bytes p k

pub entries_read : (count : ℕ) (bytes : List ℕ) (p : ℕ) (entries : List (Option (ℕ × DataDirectory))) → entries_in_room count bytes p ≡ Some entries → AreEntries count bytes p entries
unfolding entries_in_room
entries_read count bytes p entries h =
    let f = directory_entry_at count bytes p in
    let found = cond_some (nat_le count 16 && (count == 0 || nat_le (p + 8 * count) (length bytes))) (map f (range_with_len 0 16)) entries h in
    let tests = and_parts (nat_le count 16) (count == 0 || nat_le (p + 8 * count) (length bytes)) found.0 in
    record {
      few = leb-true count 16 tests.0;
      room = λ some. elim (or_cases (count == 0) (nat_le (p + 8 * count) (length bytes)) tests.1) [
        | inl none ↦ absurd (omega (arith, some, eqb-true count 0 none))
        | inr le ↦ leb-true (p + 8 * count) (length bytes) le
      ];
      are = found.1;
      sixteen = ap length (sym found.1) ∙ length-map-range_with_len f 0 16;
      each = λ k lt. ap (λ (es : List (Option (ℕ × DataDirectory))). get_or es k None) (sym found.1) ∙ get_or-map-range_with_len f 0 16 k k None lt (omega arith);
    }

-- entries that were read are there
entries-there : (i : ℕ) (bytes : List ℕ) (p : ℕ) (entries : List (Option (ℕ × DataDirectory))) → entries_in_room i bytes p ≡ Some entries → (k : ℕ) → k < i → slice_at bytes (p + 8 * k) 8 ≢ None
entries-there i bytes p entries h k lt none =
    let room = (entries_read i bytes p entries h).room (omega (arith, lt)) in
    let is = slice_at-inside bytes (p + 8 * k) 8 (omega (arith, room, lt)) (omega (arith, room, lt)) in
    absurd (cc (is, none))

-- the first that is not there refuses them all
pub one_missing : (count i : ℕ) (bytes : List ℕ) (p : ℕ) (entries : List (Option (ℕ × DataDirectory))) (e : ErrorOf) → i < count → count ≤ 16
    → entries_in_room i bytes p ≡ Some entries → IsSliceFault bytes (p + 8 * i) 8 e → (entries_in_room count bytes p ≡ None) × IsFirstMissing (λ i. slice_at bytes (p + 8 * i) 8) count (λ i. IsSliceFault bytes (p + 8 * i) 8) e
one_missing count i bytes p entries (Read BadOffset) lt most so_far h =
    (past_end count bytes p (omega arith) (omega arith), (i, lt, entries-there i bytes p entries so_far, slice_at-past bytes (p + 8 * i) 8 (omega arith), omega arith))
one_missing count i bytes p entries (Read TooBig) lt most so_far h =
    (past_end count bytes p (omega arith) (omega arith), (i, lt, entries-there i bytes p entries so_far, slice_at-past bytes (p + 8 * i) 8 (omega arith), omega arith))
one_missing count i bytes p entries e lt most so_far h = absurd h

pub directory_entry_at-below : (count : ℕ) (bytes : List ℕ) (p i : ℕ) → i < count → directory_entry_at count bytes p i ≡ entry_ending (p + 8 * i + 8) (directory_record Little (slice_range bytes (p + 8 * i) (p + 8 * i + 8)))
directory_entry_at-below count bytes p i lt = rw (lt-ltb i count lt) refl

pub directory_entry_at-past : (count : ℕ) (bytes : List ℕ) (p i : ℕ) → count ≤ i → directory_entry_at count bytes p i ≡ None
directory_entry_at-past count bytes p i le = rw (le-ltb i count le) refl

-- one more entry
pub entries_more : (i : ℕ) (bytes : List ℕ) (p at end : ℕ) (entries : List (Option (ℕ × DataDirectory))) (d : DataDirectory) (x : Option (ℕ × DataDirectory)) → i < 16
    → at ≡ p + 8 * i → end ≡ at + 8 → entries_in_room i bytes p ≡ Some entries → record_at 8 (directory_record Little) bytes at ≡ Some d → x ≡ entry_ending end d
    → entries_in_room (i + 1) bytes p ≡ Some (set entries i x)
entries_more i bytes p at end entries d x lt at_is end_is so_far next is =
    let are = entries_read i bytes p entries so_far in
    let here = record_at-some 8 (directory_record Little) bytes at d next in
    let e1 : end ≡ p + 8 * i + 8 = omega arith in
    let new : x ≡ directory_entry_at (i + 1) bytes p i =
    is ∙ ap (entry_ending end) here.is ∙ rw (at_is) (rw e1 (sym (directory_entry_at-below (i + 1) bytes p i (omega arith)))) in
    let each : (k : ℕ) → k < 16 → get_or (set entries i x) k None ≡ directory_entry_at (i + 1) bytes p k =
    λ k k_lt. elim (cases_lt k i) [
      | inl less ↦
          get_or-set_other entries i k x None (λ e. omega arith) ∙ are.each k k_lt ∙ directory_entry_at-below i bytes p k less ∙ sym (directory_entry_at-below (i + 1) bytes p k (omega arith))
      | inr le ↦ elim (cases_lt i k) [
        | inl more ↦
            get_or-set_other entries i k x None (λ e. omega arith) ∙ are.each k k_lt ∙ directory_entry_at-past i bytes p k le ∙ sym (directory_entry_at-past (i + 1) bytes p k (omega arith))
        | inr ge ↦
            let e : i ≡ k = omega arith in
            rw (← e) (get_or-set_same entries i x None (omega (arith, are.sixteen)) ∙ new)
      ]
    ] in
    let len : length (set entries i x) ≡ 16 = length-set entries i x ∙ are.sixteen in
    let all : set entries i x ≡ map (directory_entry_at (i + 1) bytes p) (range_with_len 0 16) = fill_by_all (directory_entry_at (i + 1) bytes p) (set entries i x) 16 None len each in
    entries_there (i + 1) bytes p (omega (arith, lt)) (λ _. omega (arith, here.end)) ∙ ap Some (sym all)

-- what is left to write, once an entry is written
pub entries-going : (endian : Endian) (entries : List (Option (ℕ × DataDirectory))) (i : ℕ) (d : DataDirectory) (bytes new final : List ℕ)
    → i < length entries → d ≡ directory_or_zeros (get_or entries i None)
    → new ≡ replaced bytes (8 * i) (encoding endian (directory_fields d))
    → IsPutting endian (entries_fields (drop i entries)) (8 * i) bytes final
    → IsPutting endian (entries_fields (drop (i + 1) entries)) (8 * (i + 1)) new final
entries-going endian entries i d bytes new final lt d_is is going =
    let rest = entries_fields (drop (i + 1) entries) in
    let own = directory_fields d in
    let split : entries_fields (drop i entries) ≡ own ++ rest =
    at_drop_more entries_fields entries i None lt ∙ flat_map-cons (λ e. directory_fields (directory_or_zeros e)) (get_or entries i None) (drop (i + 1) entries)
    ∙ ap (λ (x : DataDirectory). directory_fields x ++ rest) (sym d_is) in
    let len : length (encoding endian own) ≡ 8 = length_encoding endian own in
    let whole : 8 * i + (8 + total_width rest) ≤ length bytes = omega (arith, ap total_width split, going.room) in
    let place : 8 * (i + 1) ≡ 8 * i + length (encoding endian own) = omega (arith, len) in
    let same_len : length new ≡ length bytes = ap length is ∙ length-replaced bytes (8 * i) (encoding endian own) (omega (arith, len)) in
    record {
      room = omega arith;
      same = rw (place, is) (replaced_then bytes (8 * i) (encoding endian own) (encoding endian rest) (omega (arith, len)) ∙ ap (replaced bytes (8 * i)) (sym (encoding_append endian own rest)) ∙ ap (λ (fs : List FieldValue). replaced bytes (8 * i) (encoding endian fs)) (sym split) ∙ going.same);
    }

-- how many bytes all entries take
pub width-entries : (entries : List (Option (ℕ × DataDirectory))) → total_width (entries_fields entries) ≡ 8 * length entries
width-entries [] = refl
width-entries (e ∷ entries) = let rest = width-entries entries in omega arith

-- before the first is written
pub all_going : (endian : Endian) (entries : List (Option (ℕ × DataDirectory))) (bytes : List ℕ) → length entries ≡ 16 → length bytes ≡ 128
    → IsPutting endian (entries_fields entries) 0 bytes (encoding endian (entries_fields entries))
all_going endian entries bytes sixteen len =
    let fields = entries_fields entries in
    let width = width-entries entries in
    let none : drop (0 + length (encoding endian fields)) bytes ≡ [] = drop_all _ bytes (omega (arith, length_encoding endian fields)) in
    record { room = omega (arith, width); same = rw none (append-nil (encoding endian fields)) }

-- once the last is written
pub entries_done : (endian : Endian) (entries : List (Option (ℕ × DataDirectory))) (i : ℕ) (bytes final : List ℕ) → length entries ≡ i → length bytes ≤ 8 * i
    → IsPutting endian (entries_fields (drop i entries)) (8 * i) bytes final → bytes ≡ final
entries_done endian entries i bytes final len past going =
    let none : drop i entries ≡ [] = drop_all i entries (omega arith) in
    let last : entries_fields (drop i entries) ≡ [] = ap entries_fields none in
    let whole : replaced bytes (8 * i) [] ≡ bytes = rw (take_all (8 * i) bytes past, drop_all (8 * i + 0) bytes (omega arith)) (simp append-nil) in
    sym whole ∙ ap (λ (fs : List FieldValue). replaced bytes (8 * i) (encoding endian fs)) (sym last) ∙ going.same

drop-zip : {K E : Type 0} (ks : List K) (es : List E) (i : ℕ) (k : K) (e : E) → i < length ks → i < length es → drop i (zip ks es) ≡ (get_or ks i k, get_or es i e) ∷ drop (suc i) (zip ks es)
drop-zip [] es i k e ks_lt es_lt = absurd (omega arith)
drop-zip (x ∷ ks) [] i k e ks_lt es_lt = absurd (omega arith)
drop-zip (x ∷ ks) (y ∷ es) zero k e ks_lt es_lt = refl
drop-zip (x ∷ ks) (y ∷ es) (suc i) k e ks_lt es_lt = drop-zip ks es i k e (omega arith) (omega arith)

walk : (entries : List (Option (ℕ × DataDirectory))) (i : ℕ) (kind : DataDirectoryType) → i < 15 → length entries ≡ 16
    → present_from i entries ≡ filter_map with_kind ((get_or kinds i kind, get_or entries i None) ∷ drop (i + 1) (zip kinds entries))
unfolding kinds
walk entries i kind lt len =
    let step : drop i (zip kinds entries) ≡ (get_or kinds i kind, get_or entries i None) ∷ drop (i + 1) (zip kinds entries) =
    rw (add-one i) (drop-zip kinds entries i kind None lt (omega arith)) in
    ap (filter_map with_kind) step

-- an entry that is none is passed over
pub walk_none : (entries : List (Option (ℕ × DataDirectory))) (i : ℕ) → i < 15 → length entries ≡ 16 → get_or entries i None ≡ None
    → present_from (i + 1) entries ≡ present_from i entries
walk_none entries i lt len none = sym (walk entries i ExportTable lt len ∙ rw none refl)

-- another comes beside its kind
pub walk_some : (entries : List (Option (ℕ × DataDirectory))) (i : ℕ) (kind : DataDirectoryType) (entry : ℕ × DataDirectory) → i < 15 → length entries ≡ 16 → get_or entries i None ≡ Some entry
    → present_from i entries ≡ (get_or kinds i kind, entry.1) ∷ present_from (i + 1) entries
walk_some entries i kind entry lt len some = walk entries i kind lt len ∙ rw some refl

-- after the last kind nothing is left
pub walk_end : (entries : List (Option (ℕ × DataDirectory))) (i : ℕ) → 15 ≤ i → present_from i entries ≡ []
unfolding kinds
walk_end entries i le = ap (filter_map with_kind) (drop_all i (zip kinds entries) (omega (arith, length-zip kinds entries)))

length-filter_map : {X Y : Type 0} (h : X → Option Y) (xs : List X) → length (filter_map h xs) ≤ length xs
length-filter_map h [] = omega arith
length-filter_map h (x ∷ xs) =
    let rest = length-filter_map h xs in
    elim (h x) as (λ o. length (cons_option o (filter_map h xs)) ≤ length (x ∷ xs)) [ None ↦ omega arith | Some y ↦ omega arith ]

-- no more are left than there are kinds
pub walk_most : (entries : List (Option (ℕ × DataDirectory))) (i : ℕ) → length (present_from i entries) ≤ 15 - i
unfolding kinds
walk_most entries i = omega (arith, length-filter_map with_kind (drop i (zip kinds entries)), length-drop i (zip kinds entries), length-zip kinds entries)
