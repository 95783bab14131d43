-- The data directories by the room in the file: what they are, and which cause is true of them.
use Rattle.std.proofs.Common.{◌≡◌, ◌≢◌, ◌/◌, ◌%◌, ◌+◌, ◌-◌, ◌*◌, ◌<◌, ◌≤◌, ◌&&◌, ◌||◌, ℕ, Bool, true, false, cond, get_or, nat_eq, nat_le, List, length, map, Option, Some, None, refl, replicate, set, subst, sym, ap, ◌∙◌, inl, inr, arith, option_and_then, option_map, slice_range}
use Rattle.std.specs.List.{range_with_len, slice_get}
use Rattle.std.proofs.lemmas.Bool.{cases_eq, cases_lt, eqb-false, eqb-true, le-leb, leb-false, leb-true, lt-leb, or_cases, or_parts}
use Rattle.std.proofs.lemmas.List.FromFn.{get_or-map-range_with_len, length-map-range_with_len}
use Rattle.std.proofs.lemmas.Option.{slice_get_past, slice_get_read}
use Rattle.goblin_base.specs.declared.endian.Endian.TheVariants.{Little}
use Rattle.goblin_base.specs.declared.error.CauseOf.TheVariants.{DirectoryCount}
use Rattle.goblin_base.specs.{declared.error.ErrorOf.ErrorOf, Bytes.slice_at, Reading.IsRefused}
use Rattle.goblin_base.specs.Record.{record_at}
use Rattle.goblin_base.specs.declared.error.ErrorOf.TheVariants.{Malformed, Read}
use Rattle.goblin_base.specs.declared.error.ReadFault.TheVariants.{BadOffset, TooBig}
use Rattle.goblin_base.specs.Answers.{IsFirstMissing, IsSliceFault, all_at}
use Rattle.goblin_base.proofs.Footprints.{same-all_at, same_map}
use Rattle.goblin_base.proofs.Numbers.{slice-of_slice, slice_at-inside, slice_at-past}
use Rattle.goblin_base.proofs.Steps.{all_at-none, unmapped}
use Rattle.readings.proofs.WalkValues.{all_of-made}
use Rattle.goblin_pe_sect.specs.DataDirectories.{DataDirectory, directory_record, entry_ending}
use Rattle.goblin_pe_sect.specs.DirectoryReadings.{directories_at, sixteen}
use Rattle.goblin_pe_sect.proofs.Entries.{directory_entry_at, directory_entry_at-below, directory_entry_at-past, AreEntries, entries_in_room, entries_more, entries_read, entries_there, one_missing}

-- ---- the value

by_room : {X : Type 0} (few room : Bool) (made : Option X) (all : X)
    → (room ≡ true → made ≡ Some all) → (room ≡ false → made ≡ None)
    → cond few made None ≡ cond (few && room) (Some all) None
by_room true true made all there not_there = there refl
by_room true false made all there not_there = not_there refl
by_room false room made all there not_there = refl

module _ (count : ℕ) (bytes : List ℕ) (p : ℕ) where
  abbrev directory : ℕ → Option DataDirectory
  directory = λ i. record_at 8 (directory_record Little) bytes (p + 8 * i)

  abbrev own : ℕ → DataDirectory
  own = λ i. directory_record Little (slice_range bytes (p + 8 * i) (p + 8 * i + 8))

  directory_there : (i : ℕ) → p + 8 * i + 8 ≤ length bytes → directory i ≡ Some (own i)
  directory_there i le =
      ap (option_map (directory_record Little)) (slice_at-inside bytes (p + 8 * i) 8 (omega (arith, le)) le)

  directory_missing : (i : ℕ) → length bytes < p + 8 * i + 8 → directory i ≡ None
  directory_missing i past =
      ap (option_map (directory_record Little)) (slice_at-past bytes (p + 8 * i) 8 past)

  all_there : (0 < count → p + 8 * count ≤ length bytes)
      → all_at directory count ≡ Some (map own (range_with_len 0 count))
  all_there room =
      same-all_at directory (λ i. Some (own i)) count
      (λ j lt. directory_there j (omega (arith, lt, room (omega (arith, lt)))))
      ∙ all_of-made own (range_with_len 0 count)

  entry_is : (i : ℕ)
      → option_and_then (entry_ending (p + 8 * i + 8))
      (slice_get (map own (range_with_len 0 count)) i) ≡ directory_entry_at count bytes p i
  entry_is i =
      let long = length-map-range_with_len own 0 count in
      elim (cases_lt i count) [
        | inl lt ↦
            ap (option_and_then (entry_ending (p + 8 * i + 8)))
            (slice_get_read (map own (range_with_len 0 count)) count i (own i) (sym long) lt
            (sym (get_or-map-range_with_len own 0 count i i (own i) lt (omega arith))))
            ∙ sym (directory_entry_at-below count bytes p i lt)
        | inr past ↦
            ap (option_and_then (entry_ending (p + 8 * i + 8)))
            (slice_get_past (map own (range_with_len 0 count)) i (omega (arith, long, past)))
            ∙ sym (directory_entry_at-past count bytes p i past)
      ]

  entries_are : sixteen p (map own (range_with_len 0 count))
      ≡ map (directory_entry_at count bytes p) (range_with_len 0 16)
  entries_are =
      same_map
      (λ i.
      option_and_then (entry_ending (p + 8 * i + 8))
      (slice_get (map own (range_with_len 0 count)) i))
      (directory_entry_at count bytes p) 16 0 (λ i low high. entry_is i)

  made_there : (nat_eq count 0 || nat_le (p + 8 * count) (length bytes)) ≡ true
      → option_map (sixteen p) (all_at directory count)
      ≡ Some (map (directory_entry_at count bytes p) (range_with_len 0 16))
  made_there room =
      ap (option_map (sixteen p))
      (all_there (λ some. elim (or_cases (nat_eq count 0) (nat_le (p + 8 * count) (length bytes)) room) [
        | inl none ↦ absurd (omega (arith, some, eqb-true count 0 none))
        | inr there ↦ leb-true (p + 8 * count) (length bytes) there
      ]))
      ∙ ap (λ entries. Some entries) entries_are

  made_none : (nat_eq count 0 || nat_le (p + 8 * count) (length bytes)) ≡ false
      → option_map (sixteen p) (all_at directory count) ≡ None
  made_none short =
      let parts = or_parts (nat_eq count 0) (nat_le (p + 8 * count) (length bytes)) short in
      let some : 0 < count = elim (cases_lt 0 count) [
        | inl lt ↦ lt
        | inr none ↦ absurd (eqb-false count 0 parts.0 (omega (arith, none)))
      ] in
      let past : length bytes < p + 8 * count =
      leb-false (p + 8 * count) (length bytes) parts.1 in
      ap (option_map (sixteen p))
      (all_at-none directory count (count - 1) (omega (arith, some))
      (directory_missing (count - 1) (omega (arith, some, past))))

  pub value-directories_at : (directories_at count p).value bytes ≡ entries_in_room count bytes p
  unfolding directories_at entries_in_room
  value-directories_at =
      by_room (nat_le count 16) (nat_eq count 0 || nat_le (p + 8 * count) (length bytes))
      (option_map (sixteen p) (all_at directory count))
      (map (directory_entry_at count bytes p) (range_with_len 0 16)) made_there made_none

pub directories_read : (count : ℕ) (bytes : List ℕ) (p : ℕ) (entries : List (Option (ℕ × DataDirectory)))
    → (directories_at count p).value bytes ≡ Some entries → AreEntries count bytes p entries
directories_read count bytes p entries e =
    entries_read count bytes p entries (sym (value-directories_at count bytes p) ∙ e)

-- ---- the cause

from_records : (count : ℕ) (bytes : List ℕ) (p : ℕ) (e : ErrorOf)
    → IsFirstMissing (λ i. slice_at bytes (p + 8 * i) 8) count (λ i. IsSliceFault bytes (p + 8 * i) 8) e
    → IsFirstMissing (directory count bytes p) count (λ i. IsSliceFault bytes (p + 8 * i) 8) e
from_records count bytes p e (i, below, earlier, none, cause) = (
  i,
  below,
  λ k lt missing. earlier k lt (unmapped (directory_record Little) (slice_at bytes (p + 8 * k) 8) missing),
  ap (option_map (directory_record Little)) none,
  cause,
)

-- entries that run past the end are refused as the first of them is
cut_refused : (count : ℕ) (bytes : List ℕ) (p : ℕ) (e : ErrorOf) → count ≤ 16
    → length bytes - p < 8 * count
    → IsSliceFault bytes (p + 8 * ((length bytes - p) / 8)) 8 e
    → IsRefused (directories_at count p) bytes e
unfolding directories_at
cut_refused count bytes p e most short fault =
    let i = (length bytes - p) / 8 in
    let few : nat_le count 16 ≡ true = le-leb count 16 most in
    let none =
    one_missing count i bytes p (map (directory_entry_at i bytes p) (range_with_len 0 16)) e
    (omega (arith, short)) most
    (entries_there i bytes p (omega (arith, short, most)) (λ some. omega (arith, some))) fault in
    (value-directories_at count bytes p ∙ none.0, rw few (from_records count bytes p e none.1))

pub cut_none : (count : ℕ) (bytes : List ℕ) (p : ℕ) → count ≤ 16 → length bytes - p < 8 * count
    → (directories_at count p).value bytes ≡ None
cut_none count bytes p most short = elim (cases_eq ((length bytes - p) % 8) 0) [
  | inl whole ↦ (cut_refused count bytes p (Read BadOffset) most short (omega (arith, whole))).0
  | inr cut ↦ (cut_refused count bytes p (Read TooBig) most short (omega (arith, cut), omega (arith, cut))).0
]

pub whole_cause : (count : ℕ) (bytes : List ℕ) (p : ℕ) → count ≤ 16 → length bytes - p < 8 * count
    → (length bytes - p) % 8 ≡ 0 → (directories_at count p).IsCause bytes (Read BadOffset)
whole_cause count bytes p most short whole =
    (cut_refused count bytes p (Read BadOffset) most short (omega (arith, whole))).1

pub cut_cause : (count : ℕ) (bytes : List ℕ) (p : ℕ) → count ≤ 16 → length bytes - p < 8 * count
    → (length bytes - p) % 8 ≢ 0 → (directories_at count p).IsCause bytes (Read TooBig)
cut_cause count bytes p most short cut =
    (cut_refused count bytes p (Read TooBig) most short (omega (arith, cut), omega (arith, cut))).1

-- more than sixteen are refused
pub many_none : (count : ℕ) (bytes : List ℕ) (p : ℕ) → 16 < count
    → (directories_at count p).value bytes ≡ None
unfolding directories_at
many_none count bytes p many = rw (lt-leb count 16 many) refl

pub many_cause : (count : ℕ) (bytes : List ℕ) (p : ℕ) → 16 < count
    → (directories_at count p).IsCause bytes (Malformed (DirectoryCount count))
unfolding directories_at
many_cause count bytes p many = rw (lt-leb count 16 many) refl

-- no entries are read at any offset
pub no_entries : (count : ℕ) (bytes : List ℕ) (p : ℕ) (entries : List (Option (ℕ × DataDirectory)))
    → count ≡ 0 → entries ≡ replicate 16 None → (directories_at count p).value bytes ≡ Some entries
unfolding directories_at
no_entries count bytes p entries none empty = rw (none, empty) refl

-- a record that is there, in the bytes from p on
pub record_there : (bytes : List ℕ) (p k : ℕ) (d : DataDirectory) → p + k + 8 ≤ length bytes
    → d ≡ directory_record Little (slice_range (slice_range bytes p (length bytes)) k (k + 8))
    → record_at 8 (directory_record Little) bytes (p + k) ≡ Some d
record_there bytes p k d room is =
    let all : p + (length bytes - p) ≡ length bytes = omega (arith, room) in
    let same : slice_range (slice_range bytes p (length bytes)) k (k + 8)
    ≡ slice_range bytes (p + k) (p + k + 8) =
    subst (λ (end : ℕ). slice_range (slice_range bytes p end) k (k + 8) ≡ slice_range bytes (p + k) (p + k + 8))
    all (slice-of_slice bytes p (length bytes - p) k 8 (omega (arith, room))) in
    ap (option_map (directory_record Little)) (slice_at-inside bytes (p + k) 8 (omega (arith, room)) room)
    ∙ ap (λ (own : List ℕ). Some (directory_record Little own)) (sym same) ∙ ap (λ (d : DataDirectory). Some d) (sym is)

-- an entry that was not read is none
pub none_so_far : (i : ℕ) (bytes : List ℕ) (p : ℕ) (entries : List (Option (ℕ × DataDirectory)))
    → i < 16 → (directories_at i p).value bytes ≡ Some entries → get_or entries i None ≡ None
none_so_far i bytes p entries lt so_far =
    (directories_read i bytes p entries so_far).each i lt ∙ directory_entry_at-past i bytes p i (omega arith)

-- one more entry
pub one_more : (i : ℕ) (bytes : List ℕ) (p at end : ℕ) (entries : List (Option (ℕ × DataDirectory)))
    (d : DataDirectory) (x : Option (ℕ × DataDirectory)) → i < 16 → at ≡ p + 8 * i
    → end ≡ at + 8 → (directories_at i p).value bytes ≡ Some entries
    → record_at 8 (directory_record Little) bytes at ≡ Some d → x ≡ entry_ending end d
    → (directories_at (i + 1) p).value bytes ≡ Some (set entries i x)
one_more i bytes p at end entries d x lt at_is end_is so_far next is =
    let before = sym (value-directories_at i bytes p) ∙ so_far in
    value-directories_at (i + 1) bytes p
    ∙ entries_more i bytes p at end entries d x lt at_is end_is before next is

pub ruleset refusals = (cut_none, cut_cause, whole_cause, many_none, many_cause)

pub ruleset absences = (no_entries, none_so_far)
