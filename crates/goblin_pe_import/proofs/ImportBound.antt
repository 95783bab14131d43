-- How many imports a file can have: no more than records fit it, each with no more entries than fit it.
use Rattle.std.proofs.Common.{sum_by, ◌≡◌, ℕ, zero, suc, ◌+◌, ◌*◌, ◌/◌, ◌<◌, ◌≤◌, ◌&&◌, Bool, true, false, cond, not, List, [], ◌∷◌, ◌++◌, length, take_all, add-one, Option, Some, None, refl, sym, ap, subst, arith, get_or, map, nat_eq, slice_get, take, unwrap_or, is_some}
use Rattle.std.specs.List.{range_with_len}
use Rattle.std.proofs.lemmas.Option.{get_or_from_slice_get, slice_get_within}
use Rattle.std.proofs.lemmas.List.{length-append, length-map}
use Rattle.std.proofs.{lemmas.List.FromFn.length-range_with_len, lemmas.Nat.le-div}
use Rattle.std.proofs.lemmas.List.Sums.{sum_by-append, sum_by_more}
use Rattle.goblin_base.specs.{Answers.◌>>=◌, Answers.all_of, Reading.Reading}
use Rattle.goblin_base.specs.declared.mapped.MappedEnd.{MappedEnd}
use Rattle.goblin_base.specs.Tables.{Format, SlotFormat, each_below, ends_table, least, or_left_out, slot_at, slot_place, slot_table, stop}
use Rattle.goblin_base.proofs.Below.{join-parts, least-before}
use Rattle.goblin_base.proofs.{Records.record_at-some, Kept.without_test, TextEnds.cond_some_by}
use Rattle.goblin_base.proofs.Steps.{mapped, same_value, step}
use Rattle.goblin_pe_sect.specs.AddressReadings as address
use Rattle.goblin_pe_sect.specs.Addresses.{Addressing}
use Rattle.goblin_pe_import.specs.ImportRecords.{ImportDirectoryEntry}
use Rattle.goblin_pe_import.specs.{ImportBound.AreFew, ImportEntries.LookupEntry.ByOrdinal}
use Rattle.goblin_pe_import.specs.ImportReadings as directory
use Rattle.goblin_pe_import.specs.ImportRecords.{ImportedLibrary, import_slots, lookup_offset}
use Rattle.goblin_pe_import.specs.ImportEntries.{EntryValue, LookupEntry, entry_slots}
use Rattle.goblin_pe_import.specs.LookupReadings as reading
use Rattle.readings.specs.Reads.{given, in_its_place, pair_of}
use Rattle.goblin_pe_import.specs.Imports.{ImportValue, has_slots, import_at, imports_by, imports_of, kept_entries, library_imports}
use Rattle.goblin_base.proofs.SlotTables as SlotTables
use Rattle.readings.proofs.Pairs.{both, with_slots-both}

-- how many entries the lookup tables of libraries keep
abbrev kept_count : List ImportedLibrary → ℕ
kept_count libraries = sum_by (λ library. length (kept_entries library)) libraries

-- ---- tables of slots

-- a count of lists that adds up: lists put together from n pieces count no more than n times what each piece may
module _ {A : Type 0} (count : List A → ℕ) (none : count [] ≡ 0) (adds : (xs ys : List A) → count (xs ++ ys) ≡ count xs + count ys) where
  each_below-count : (piece : ℕ → Option (List A)) (n m : ℕ) → ((j : ℕ) (xs : List A) → piece j ≡ Some xs → count xs ≤ m) → (ys : List A) → each_below piece n ≡ Some ys → count ys ≤ n * m
  each_below-count piece zero m few ys e = omega (arith, none, ap count (same_value [] ys e))
  each_below-count piece (suc n) m few ys e =
      let parts = join-parts (each_below piece n) (piece n) ys e in
      let before = each_below-count piece n m few parts.0 parts.2 in
      let last = few n parts.1 parts.3 in
      omega (arith, before, last, adds parts.0 parts.1, ap count parts.4)

-- the slots before n lie in the file, where none of them ends the table
pub slots_fit : {V : Type 0} (slots : SlotFormat V) (bytes : List ℕ) (o n : ℕ) → ((j : ℕ) → j < n → ends_table slots.is_last (slot_at slots bytes o j) ≡ false) → n * slots.entry.width ≤ length bytes
slots_fit slots bytes o zero going = omega arith
slots_fit slots bytes o (suc n) going =
    let last = SlotTables.going slots.is_last (slot_at slots bytes o n) (going n (omega arith)) in
    let is = record_at-some slots.entry.width slots.entry.value_of bytes (slot_place slots o n) last.0 last.1 in
    omega (arith, is.end)

-- there are no more slots before the stop than fit the file
stop_fits : {V : Type 0} (slots : SlotFormat V) (bytes : List ℕ) (o : ℕ) → 0 < slots.entry.width → stop slots bytes o ≤ length bytes / slots.entry.width
unfolding stop
stop_fits slots bytes o some =
    let test : ℕ → Bool = λ i. ends_table slots.is_last (slot_at slots bytes o i) in
    le-div (least test (length bytes)) (length bytes) slots.entry.width some (slots_fit slots bytes o (least test (length bytes)) (least-before test (length bytes)))

module _ {V A : Type 0} (count : List A → ℕ) (none : count [] ≡ 0) (adds : (xs ys : List A) → count (xs ++ ys) ≡ count xs + count ys) where
  slot_table-count : (slots : SlotFormat V) (needs_end : Bool) (piece : V → Option (List A)) (bytes : List ℕ) (o m : ℕ) → 0 < slots.entry.width → ((v : V) (xs : List A) → piece v ≡ Some xs → count xs ≤ m)
      → (ys : List A) → slot_table slots needs_end piece bytes o ≡ Some ys → count ys ≤ (length bytes / slots.entry.width) * m
  unfolding slot_table
  slot_table-count slots needs_end piece bytes o m some few ys e =
      let n = stop slots bytes o in
      let made = without_test (needs_end && not (is_some (slot_at slots bytes o n))) (each_below (λ i. slot_at slots bytes o i >>= piece) n) ys e in
      let all = each_below-count count none adds (λ i. slot_at slots bytes o i >>= piece) n m (λ j xs is. let s = step (slot_at slots bytes o j) piece xs is in few s.value xs s.then) ys made in
      times_le (count ys) n (length bytes / slots.entry.width) m all (stop_fits slots bytes o some)
    where
      times_le : (x n k m : ℕ) → x ≤ n * m → n ≤ k → x ≤ k * m
      times_le x n k m h le = grind (arith, h, le)

-- ---- what a table keeps

-- an item that is kept, alone; or none, where permissive mode leaves it out
pub left_out-or : {A : Type 0} (strict : Bool) (item : Option A) (xs : List A)
    (Holds : List A → Type 0) → Holds [] → ((x : A) → item ≡ Some x → Holds (x ∷ []))
    → or_left_out strict item ≡ Some xs → Holds xs
left_out-or strict (Some x) xs Holds none one e = subst Holds (same_value (x ∷ []) xs e) (one x refl)
left_out-or true None xs Holds none one e = absurd cc
left_out-or false None xs Holds none one e = subst Holds (same_value [] xs e) none

kept_name-few : (strict : Bool) (longest : Option ℕ) (bytes : List ℕ) (rva : ℕ) (end : Option MappedEnd) (place : Option ℕ)
    (xs : List LookupEntry) → (reading.kept_name strict longest rva end place).value bytes ≡ Some xs
    → length xs ≤ 1
kept_name-few strict longest bytes rva end None xs e = omega (arith, ap length (same_value [] xs e))
kept_name-few strict longest bytes rva end (Some p) xs e =
    left_out-or strict _ xs (λ xs. length xs ≤ 1) (omega arith) (λ x is. omega arith) e

one_or : (test : Bool) (x : LookupEntry) (other : Reading (List LookupEntry)) (bytes : List ℕ)
    (xs : List LookupEntry) → (other.value bytes ≡ Some xs → length xs ≤ 1)
    → (cond test (given (x ∷ [])) other).value bytes ≡ Some xs → length xs ≤ 1
one_or true x other bytes xs few e = omega (arith, ap length (same_value (x ∷ []) xs e))
one_or false x other bytes xs few e = few e

pub kept_entry-few : (strict : Bool) (addressing : Addressing) (bytes : List ℕ)
    (entry : EntryValue) (xs : List LookupEntry)
    → (reading.kept_entry strict addressing entry).value bytes ≡ Some xs → length xs ≤ 1
unfolding reading.kept_entry
kept_entry-few strict addressing bytes entry xs e =
    one_or entry.is_ordinal (ByOrdinal entry.ordinal)
    (reading.kept_name strict addressing.longest entry.rva (addressing.end entry.rva) (addressing.offset entry.rva)) bytes xs
    (kept_name-few strict addressing.longest bytes entry.rva (addressing.end entry.rva) (addressing.offset entry.rva) xs) e

-- the libraries of import data: none, or those of the directory at the offset of its address
module _ (strict : Bool) (format : Format EntryValue) (addressing : Addressing) (bytes : List ℕ)
    (rva : ℕ) (xs : List ImportedLibrary) where
  pub in_directory : (directory.import_data strict format addressing rva).value bytes ≡ Some xs
      → (Holds : List ImportedLibrary → Type 0) → Holds []
      → ((o : ℕ) → directory.first_record_offset strict (addressing.offset rva) ≡ Some o
      → (directory.libraries_at strict format addressing o).value bytes ≡ Some xs → Holds xs)
      → Holds xs
  unfolding directory.import_data
  in_directory e Holds none at = by_place strict (addressing.offset rva) at e
    where
      by_test : (mode test : Bool) (o : ℕ)
          → (cond test None (Some o) ≡ Some o
          → (directory.libraries_at mode format addressing o).value bytes ≡ Some xs → Holds xs)
          → (directory.read_if (directory.libraries_at mode format addressing) (cond test None (Some o))).value bytes
          ≡ Some xs
          → Holds xs
      by_test mode true o here e = subst Holds (same_value [] xs e) none
      by_test mode false o here e = here refl e

      by_place : (mode : Bool) (place : Option ℕ)
          → ((o : ℕ) → directory.first_record_offset mode place ≡ Some o
          → (directory.libraries_at mode format addressing o).value bytes ≡ Some xs → Holds xs)
          → (in_its_place mode 0 place
          >>= λ o. (directory.read_past_front mode (directory.libraries_at mode format addressing) o).value bytes) ≡ Some xs
          → Holds xs
      by_place mode (Some o) at e = by_test mode (not mode && nat_eq o 0) o (at o) e
      by_place true None at e = absurd cc
      by_place false None at e = subst Holds (same_value [] xs e) none

module _ (strict : Bool) (format : Format EntryValue) (addressing : Addressing) (bytes : List ℕ) (some : 0 < format.width) where
  -- how many entries fit the file
  abbrev entries : ℕ
  entries = length bytes / format.width

  lookup_table-few : (o : ℕ) (xs : List LookupEntry) → (reading.lookup_table strict format addressing o).value bytes ≡ Some xs → length xs ≤ entries
  lookup_table-few o xs e =
      let few = slot_table-count length refl length-append (entry_slots format) strict (λ entry. (reading.kept_entry strict addressing entry).value bytes) bytes o 1 some (kept_entry-few strict addressing bytes) xs e in
      omega (arith, few)

  lookup_if-few : (place : Option ℕ) (both : Option (List LookupEntry) × List ℕ)
      → (directory.lookup_if strict format addressing place).value bytes ≡ Some both
      → length (unwrap_or both.0 []) ≤ entries
  unfolding directory.lookup_if
  lookup_if-few None both e =
      subst (λ (t : Option (List LookupEntry) × List ℕ). length (unwrap_or t.0 []) ≤ entries)
      (same_value (None, []) both e) (omega arith)
  lookup_if-few (Some o) both e =
      let m = mapped ((reading.lookup_with_slots strict format addressing o).value bytes) _ both e in
      let table = (with_slots-both _ ((reading.lookup_table strict format addressing o).value bytes) m.value m.is).0 in
      subst (λ (t : Option (List LookupEntry) × List ℕ). length (unwrap_or t.0 []) ≤ entries)
      m.made (lookup_table-few o m.value.0 table)

  library_of-few : (r : ImportDirectoryEntry) (library : ImportedLibrary)
      → (directory.library_of strict format addressing r).value bytes ≡ Some library
      → length (kept_entries library) ≤ entries
  unfolding directory.library_of
  library_of-few r library e =
      let place = lookup_offset addressing r in
      let name = in_its_place strict [] ((address.name_at addressing r.name_rva).value bytes) in
      let look = (directory.lookup_if strict format addressing place).value bytes in
      let m = mapped (pair_of (pair_of name look) _) _ library e in
      let there = (both name look m.value.0 (both (pair_of name look) _ m.value m.is).first).second in
      subst (λ (l : ImportedLibrary). length (kept_entries l) ≤ entries) m.made
      (lookup_if-few place m.value.0.1 there)

  libraries_at-few : (o : ℕ) (xs : List ImportedLibrary) → (directory.libraries_at strict format addressing o).value bytes ≡ Some xs → kept_count xs ≤ length bytes / 20 * entries
  libraries_at-few o xs e =
      slot_table-count kept_count refl (sum_by-append (λ library. length (kept_entries library))) import_slots strict (λ r. or_left_out strict ((directory.library_of strict format addressing r).value bytes)) bytes o entries (omega arith)
      (λ r ys is. left_out-or strict ((directory.library_of strict format addressing r).value bytes) ys (λ ls. kept_count ls ≤ entries) (omega arith) (λ l here. omega (arith, library_of-few r l here)) is) xs e

  -- the entries that the lookup tables of import data keep
  pub import_data-few : (rva : ℕ) (libraries : List ImportedLibrary)
      → (directory.import_data strict format addressing rva).value bytes ≡ Some libraries
      → kept_count libraries ≤ length bytes / 20 * entries
  import_data-few rva libraries e =
      in_directory strict format addressing bytes rva libraries e
      (λ ls. kept_count ls ≤ length bytes / 20 * entries) (omega arith)
      (λ o is here. libraries_at-few o libraries here)

-- ---- the imports

-- as many values come as there are, where each is there
pub all_of-length : {A : Type 0} (values : List (Option A)) (xs : List A) → all_of values ≡ Some xs → length xs ≡ length values
all_of-length [] xs e = sym (ap length (same_value [] xs e))
all_of-length {A} (value ∷ values) xs e =
    let s1 = step value (λ first. all_of values >>= λ rest. Some (first ∷ rest)) xs e in
    let s2 = step (all_of values) (λ rest. Some (s1.value ∷ rest)) xs s1.then in
    omega (arith, all_of-length values s2.value s2.is, ap length (same_value (s1.value ∷ s2.value) xs s2.then))

library_imports-length : (size : ℕ) (library : ImportedLibrary) (xs : List ImportValue) → library_imports size library ≡ Some xs → length xs ≡ length (kept_entries library)
unfolding imports_by
library_imports-length size library xs e =
    let n = length (kept_entries library) in
    let at = import_at size library.name library.import_directory_entry.import_address_table_rva (kept_entries library) library.import_lookup_slots in
    omega (arith, all_of-length (map at (range_with_len 0 n)) xs (cond_some_by (has_slots library) _ xs e).1, length-map (range_with_len 0 n) at, length-range_with_len 0 n)

imports_to : (size : ℕ) (libraries : List ImportedLibrary) (n : ℕ) (xs : List ImportValue) → n ≤ length libraries → each_below (λ i. slice_get libraries i >>= library_imports size) n ≡ Some xs → length xs ≡ kept_count (take n libraries)
imports_to size libraries zero xs le e = sym (ap length (same_value [] xs e))
imports_to size libraries (suc n) xs le e =
    let parts = join-parts (each_below (λ i. slice_get libraries i >>= library_imports size) n) (slice_get libraries n >>= library_imports size) xs e in
    let before = imports_to size libraries n parts.0 (omega (arith, le)) parts.2 in
    let s = step (slice_get libraries n) (library_imports size) parts.1 parts.3 in
    let own = library_imports-length size s.value parts.1 s.then in
    let more = sum_by_more (λ library. length (kept_entries library)) libraries n s.value (slice_get_within libraries n s.value s.is) in
    let here : length (kept_entries (get_or libraries n s.value)) ≡ length (kept_entries s.value) = ap (λ (l : ImportedLibrary). length (kept_entries l)) (get_or_from_slice_get libraries n s.value s.value s.is) in
    let next : kept_count (take (n + 1) libraries) ≡ kept_count (take (suc n) libraries) = ap (λ (k : ℕ). kept_count (take k libraries)) (add-one n) in
    omega (arith, before, own, more, here, next, ap length parts.4, length-append parts.0 parts.1)

pub are_few : (format : Format EntryValue) (libraries : List ImportedLibrary) (imports : List ImportValue) → 0 < format.width → imports_of format.width libraries ≡ Some imports → AreFew format libraries imports
unfolding AreFew imports_of
are_few format libraries imports some listed strict addressing file rva read =
    let few = import_data-few strict format addressing file some rva libraries read in
    let all = imports_to format.width libraries (length libraries) imports (omega arith) listed in
    let whole : kept_count (take (length libraries) libraries) ≡ kept_count libraries = ap kept_count (take_all (length libraries) libraries (omega arith)) in
    omega (arith, few, all, whole)
