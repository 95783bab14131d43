-- Strict mode refuses nothing of imports exactly if permissive mode skips nothing, and every name is there.
use Rattle.std.proofs.Common.{◌≡◌, ◌≢◌, ◌↔◌, ◌<◌, ◌≤◌, ◌+◌, ◌-◌, ◌*◌, ◌^◌, ℕ, zero, suc, Bool, true, false, not, ◌&&◌, if◌then◌else◌, cond, List, [], ◌∷◌, length, Option, Some, None, IsSome, IfSome, IsSomeAnd, is_some, is_none, refl, ap, sym, subst, ◌∙◌, arith, inl, inr, ◌==◌, ne_eqb, option_map, Result, Ok, Err, IsOkAnd}
use Rattle.std.proofs.lemmas.Bool.{cases_lt}
use Rattle.std.specs.{Int.from_bool, List.flat_map}
use Rattle.goblin_base.specs.{Answers.◌>>=◌, Answers.all_of, Reading.Reading, Tables.Format}
use Rattle.goblin_base.specs.declared.{endian.Endian.TheVariants.Little, error.ErrorOf.ErrorOf}
use Rattle.goblin_base.specs.Tables.{SlotFormat, each_below, ends_table, join, made_of, or_left_out, slot_at, slot_table, stop}
use Rattle.goblin_base.proofs.Below.{least-before}
use Rattle.goblin_base.proofs.{Numbers.slice_at-past, SlotTables.going}
use Rattle.readings.specs.Reads.{given, in_its_place, mapped, pair_of, text_within, up_to, with_slots}
use Rattle.readings.specs.Reads as reads
use Rattle.readings.{specs.Walks.Walks, proofs.Pairs.strict_in_its_place}
use Rattle.goblin_pe_sect.specs.{AddressReadings.name_at, AddressReadings.offset_at, Addresses.Addressing, Addresses.MapOfAddresses, Addresses.reads_strictly}
use Rattle.goblin_pe_import.specs.ImportEntries.{EntryValue, LookupEntry, entry_slots}
use Rattle.goblin_pe_import.specs.ImportEntries.LookupEntry.{ByOrdinal}
use Rattle.goblin_pe_import.specs.ImportReadings.{first_record_offset, kept_library, library_of, lookup_if, numbered_data, numbered_libraries_at}
use Rattle.goblin_pe_import.specs.ImportRecords.{ImportDirectoryEntry, address_table_rva, import_record, import_slots, lookup_offset}
use Rattle.goblin_pe_import.specs.LookupReadings.{address_table, hint_name, kept_entry, kept_name}
use Rattle.goblin_pe_import.specs.Passed.{counts, entries_ahead, is_left_out, table_counts}
use Rattle.goblin_pe_import.specs.Passed.Count.{Skipped}
use Rattle.goblin_pe_import.specs.TableSums.{amount_of, sum_below, sum_of_slots}
use Rattle.goblin_pe_import.specs.added.ImportCursors.{BeginsAt, before_first, before_record, first_import}
use Rattle.goblin_pe_import.specs.added.ImportWalks.{ImportCursor, Imports, IsImportsCause, IsWalkAt, cursor_of, cursor_passes, imports_bytes, imports_left, record_counts, records_ahead, walk_passes}
use Rattle.goblin_pe_import.specs.Imports.{NumberedImport, numbered_imports}
use Rattle.goblin_pe_import.specs.added.WholeReads.{AllHaveNames, AreWhole, HasImportName, HasNames, OfEach}

-- ---- a table

both : {A : Type 0} (xs ys : Option (List A)) → IsSome (join xs ys) ↔ (IsSome xs × IsSome ys)
both None ys = (λ is. absurd cc, λ h. absurd cc)
both (Some xs) None = (λ is. absurd cc, λ h. absurd cc)
both (Some xs) (Some ys) = (λ is. (refl, refl), λ h. refl)

-- how much the end of a table counts
abbrev lacks : Bool → ℕ
lacks end = if end then 0 else 1

by-end : {A : Type 0} (end : Bool) (x : Option A) (sum : ℕ) (Holds : Type 0)
    → IsSome x ↔ ((sum ≡ 0) × Holds)
    → IsSome (cond (not end) None x) ↔ ((sum + lacks end ≡ 0) × Holds)
by-end true x sum Holds same =
    (λ is. let h = same.0 is in (omega (arith, h.0), h.1), λ h. same.1 (omega (arith, h.0), h.1))
by-end false x sum Holds same = (λ is. absurd cc, λ h. absurd (omega (arith, h.0)))

-- Strict mode reads a table exactly if it counts nothing, and this holds of each of its entries.
module _ {V A : Type 0} (slots : SlotFormat V) (piece : V → Option (List A)) (amount : V → ℕ) (Holds : V → Type 0)
    (same : (v : V) → IsSome (piece v) ↔ ((amount v ≡ 0) × Holds v)) (bytes : List ℕ) (o : ℕ) where
  abbrev slot : ℕ → Option V
  slot = slot_at slots bytes o

  in-slot : (x : Option V) → ends_table slots.is_last x ≡ false
      → IsSome (x >>= piece) ↔ ((amount_of amount x ≡ 0) × IsSomeAnd x Holds)
  in-slot None going = absurd cc
  in-slot (Some v) going = same v

  below : (k : ℕ) → k ≤ stop slots bytes o
      → IsSome (each_below (made_of slots piece bytes o) k)
      ↔ ((sum_below (λ i. amount_of amount (slot i)) k ≡ 0) × ((i : ℕ) → i < k → IsSomeAnd (slot i) Holds))
  unfolding stop sum_below
  below zero within = (λ is. (refl, λ i before. absurd (omega (arith, before))), λ h. refl)
  below (suc k) within =
      let so_far = below k (omega (arith, within)) in
      let here =
      in-slot (slot k) (least-before (λ i. ends_table slots.is_last (slot i)) (length bytes) k (omega (arith, within))) in
      let joined = both (each_below (made_of slots piece bytes o) k) (made_of slots piece bytes o k) in (
        λ is.
            let parts = joined.0 is in
            let before = so_far.0 parts.0 in
            let last = here.0 parts.1 in (
              omega (arith, before.0, last.0),
              λ i less. elim (cases_lt i k) [
                | inl earlier ↦ before.1 i earlier
                | inr later ↦ let is : k ≡ i = omega arith in subst (λ (i : ℕ). IsSomeAnd (slot i) Holds) is last.1
              ],
            ),
        λ h.
            joined.1 (
              so_far.1 (omega (arith, h.0), λ i less. h.1 i (omega (arith, less))),
              here.1 (omega (arith, h.0), h.1 k (omega arith)),
            ),
      )

  table-whole : IsSome (slot_table slots true piece bytes o)
      ↔ ((table_counts slots amount Skipped bytes o ≡ 0) × OfEach slots Holds bytes o)
  unfolding slot_table table_counts sum_of_slots
  table-whole =
      by-end (is_some (slot (stop slots bytes o))) (each_below (made_of slots piece bytes o) (stop slots bytes o)) _ _
      (below (stop slots bytes o) (omega arith))

-- ---- imports

some-mapped : {A B : Type 0} (f : A → B) (x : Option A) → is_some (option_map f x) ≡ is_some x
some-mapped f None = refl
some-mapped f (Some x) = refl

-- a table with its slots
with-slots : {A B : Type 0} (made : A × List ℕ → B) (kept : List ℕ) (x : Option A)
    → is_some (option_map made (with_slots kept x)) ≡ is_some x
with-slots made kept None = refl
with-slots made kept (Some x) = refl

module _ (format : Format EntryValue) (addressing : Addressing) (bytes : List ℕ) where
  -- an entry
  entry-whole : (v : EntryValue)
      → IsSome ((kept_entry true addressing v).value bytes)
      ↔ ((from_bool (counts false addressing bytes Skipped v) ≡ 0) × HasImportName addressing bytes v)
  unfolding kept_entry hint_name
  entry-whole v = by v.is_ordinal (addressing.offset v.rva)
    where
      kept : Bool → Bool → Option ℕ → Option (List LookupEntry)
      kept strict is_ordinal place =
          (cond is_ordinal (given (ByOrdinal v.ordinal ∷ []))
          (kept_name strict addressing.longest v.rva (addressing.end v.rva) place)).value bytes

      named : {H : Type 0} (made : ℕ × List ℕ → H) (entry : H → LookupEntry) (hint : Option ℕ)
          (text : Option (List ℕ))
          → IsSome (or_left_out true (option_map entry (option_map made (pair_of hint (in_its_place true [] text)))))
          ↔ ((from_bool
          (is_left_out (or_left_out false (option_map entry (option_map made (pair_of hint (in_its_place false [] text)))))
          && true)
          ≡ 0)
          × (false ≡ false → IsSome text))
      named made entry None None = (λ is. absurd cc, λ h. absurd cc)
      named made entry None (Some name) = (λ is. absurd cc, λ h. absurd cc)
      named made entry (Some x) None = (λ is. absurd cc, λ h. let named = h.1 refl in absurd cc)
      named made entry (Some x) (Some name) = (λ is. (refl, λ by_name. refl), λ h. refl)

      by : (is_ordinal : Bool) (place : Option ℕ)
          → IsSome (kept true is_ordinal place)
          ↔ ((from_bool (is_left_out (kept false is_ordinal place) && not (not is_ordinal && is_none place)) ≡ 0)
          × (is_ordinal ≡ false
          → IfSome place (λ p. IsSome ((up_to (addressing.end v.rva) (text_within addressing.longest (p + 2))).value bytes))))
      by true place = (λ is. (refl, λ by_name. absurd cc), λ h. refl)
      by false None = (λ is. (refl, λ by_name. tt), λ h. refl)
      by false (Some p) = named _ _ _ _

  -- a lookup table, if there is one
  lookup-whole : (place : Option ℕ)
      → IsSome ((lookup_if true format addressing place).value bytes)
      ↔ ((entries_ahead false format addressing bytes Skipped place ≡ 0)
      × IfSome place (OfEach (entry_slots format) (HasImportName addressing bytes) bytes))
  unfolding lookup_if
  lookup-whole None = (λ is. (refl, tt), λ h. refl)
  lookup-whole (Some o) =
      let whole =
      table-whole (entry_slots format) (λ v. (kept_entry true addressing v).value bytes)
      (λ v. from_bool (counts false addressing bytes Skipped v)) (HasImportName addressing bytes) entry-whole bytes o in
      (λ is. whole.0 (sym (with-slots _ _ _) ∙ is), λ h. with-slots _ _ _ ∙ whole.1 h)

  -- what a descriptor leads to
  library-whole : (r : ImportDirectoryEntry)
      → IsSome ((kept_library true format addressing r).value bytes)
      ↔ ((record_counts false format addressing bytes Skipped None r ≡ 0) × HasNames addressing bytes format r)
  unfolding library_of record_counts
  library-whole r =
      by _ ((name_at addressing r.name_rva).value bytes) _
      ((reads.◌>>=◌ (offset_at addressing.offset (address_table_rva r)) (address_table format)).value bytes) _ _
      (lookup-whole (lookup_offset addressing r))
    where
      by : {L B : Type 0} (made : ((List ℕ × L) × List ℕ) → B) (name : Option (List ℕ)) (lookup : Option L)
          (addresses : Option (List ℕ)) (ahead : ℕ) (Named : Type 0) → (IsSome lookup ↔ ((ahead ≡ 0) × Named))
          → IsSome (or_left_out true (option_map made (pair_of (pair_of (in_its_place true [] name) lookup) addresses)))
          ↔ (((if not false && is_none addresses then 1 else ahead) ≡ 0) × (IsSome name × Named))
      by made None lookup addresses ahead Named same = (λ is. absurd cc, λ h. let name = h.1.0 in absurd cc)
      by made (Some name) None None ahead Named same = (λ is. absurd cc, λ h. absurd cc)
      by made (Some name) None (Some addresses) ahead Named same = (λ is. absurd cc, λ h. same.1 (h.0, h.1.1))
      by made (Some name) (Some x) None ahead Named same = (λ is. absurd cc, λ h. absurd cc)
      by made (Some name) (Some x) (Some addresses) ahead Named same =
          (λ is. let both = same.0 refl in (both.0, (refl, both.1)), λ h. refl)

  -- The directory at an offset: strict mode refuses nothing exactly if permissive mode skips nothing, and all names
  -- can be read.
  pub imports-whole : (o : ℕ)
      → IsSome ((numbered_libraries_at true format addressing o).value bytes)
      ↔ ((records_ahead false format addressing bytes Skipped (Some o) None ≡ 0) × AllHaveNames addressing bytes format o)
  unfolding numbered_libraries_at
  imports-whole o =
      let whole =
      table-whole import_slots (λ r. (kept_library true format addressing r).value bytes)
      (record_counts false format addressing bytes Skipped None) (HasNames addressing bytes format) library-whole bytes o in
      (λ is. whole.0 (sym (with-slots _ _ _) ∙ is), λ h. with-slots _ _ _ ∙ whole.1 h)

-- ---- a walk over them, from their address on

module _ (format : Format EntryValue) (m n : MapOfAddresses) (bytes : List ℕ) (strict : reads_strictly m ≡ true)
    (permissive : reads_strictly n ≡ false) (same : n.addressing ≡ m.addressing) (short : length bytes < 2 ^ 63) where
  -- what a permissive walk skips from a descriptor on
  skips : (o : ℕ)
      → cursor_passes n format bytes (before_record o) Skipped
      ≡ records_ahead false format m.addressing bytes Skipped (Some o) None
  skips o = rw (permissive, same) (omega arith)

  -- nothing lies behind the file, so the end of the directory is skipped there
  behind : cursor_passes n format bytes (before_record (2 ^ 64 - 1)) Skipped ≢ 0
  unfolding table_counts
  behind none =
      let o = 2 ^ 64 - 1 in
      let i = stop import_slots bytes o in
      let end : lacks (is_some (slot_at import_slots bytes o i)) ≡ 1 =
      ap (λ (x : Option (List ℕ)). lacks (is_some (option_map (import_record Little) x)))
      (slice_at-past bytes (o + 20 * i) 20 (omega (arith, short))) in
      absurd (omega (arith, sym (skips o) ∙ none, end))

  by-place : (place : Option ℕ)
      → (IsSome (place >>= (λ o. (numbered_libraries_at true format m.addressing o).value bytes)) × (place ≢ Some 0))
      ↔ (IsSomeAnd (option_map (λ o. before_first (first_record_offset false (Some o))) (in_its_place false 0 place))
      (λ c. cursor_passes n format bytes c Skipped ≡ 0)
      × IfSome place (AllHaveNames m.addressing bytes format))
  by-place None = (λ h. let none = h.0 in absurd cc, λ h. absurd (behind h.0))
  by-place (Some zero) = (λ h. absurd (h.1 refl), λ h. absurd (behind h.0))
  by-place (Some (suc o)) =
      let whole = imports-whole format m.addressing bytes (suc o) in
      let behind_front : (suc o == 0) ≡ false = ne_eqb (suc o) 0 (λ e. omega (arith, e)) in
      let first : before_first (first_record_offset false (Some (suc o))) ≡ before_record (suc o) = rw behind_front refl in
      let same : cursor_passes n format bytes (before_first (first_record_offset false (Some (suc o)))) Skipped
      ≡ records_ahead false format m.addressing bytes Skipped (Some (suc o)) None =
      ap (λ (c : ImportCursor). cursor_passes n format bytes c Skipped) first ∙ skips (suc o) in (
        λ h. let both = whole.0 h.0 in (same ∙ both.0, both.1),
        λ h. (
          whole.1 (sym same ∙ h.0, h.1),
          λ (front : Some (suc o) ≡ Some 0). let none : suc o ≡ 0 = cc in omega (arith, none),
        ),
      )

  -- a walk at a cursor
  passes-at : {T : Type 0} (it : Imports T) (c : ImportCursor) → IsWalkAt n bytes c it
      → walk_passes format it.walk Skipped ≡ cursor_passes n format bytes c Skipped
  passes-at it c h =
      ap (λ (k : MapOfAddresses). cursor_passes k format (imports_bytes it) (cursor_of it) Skipped) h.over.1
      ∙ ap (λ (b : List ℕ). cursor_passes n format b (cursor_of it) Skipped) h.over.0
      ∙ ap (λ (c : ImportCursor). cursor_passes n format bytes c Skipped) h.at

  second-skips : {T : Type 0} (read : Reading ImportCursor) (x : Option ImportCursor) → read.value bytes ≡ x
      → IsSome x → (second : Result (Imports T) ErrorOf) → BeginsAt n bytes read second
      → IsOkAnd second (λ it. walk_passes format it.walk Skipped ≡ 0)
      ↔ IsSomeAnd x (λ c. cursor_passes n format bytes c Skipped ≡ 0)
  second-skips read None is some second h = absurd cc
  second-skips {T} read (Some c) is some (Ok it) h =
      let at = passes-at it c (subst (λ (x : Option ImportCursor). IsSomeAnd x (λ c. IsWalkAt n bytes c it)) is h) in
      (λ none. sym at ∙ none, λ none. at ∙ none)
  second-skips read (Some c) is some (Err e) h = absurd (cc (is, h.0))

  first-there : {T A : Type 0} (gather : List NumberedImport → A) (read : Reading A)
      (first : Result (Imports T) ErrorOf)
      → Walks (imports_left format) (IsImportsCause format) gather first read bytes
      → IsOkAnd first (λ it. IsSome (all_of (imports_left format it))) ↔ IsSome (read.value bytes)
  first-there gather read (Ok it) h =
      let same = sym (some-mapped gather (all_of (imports_left format it))) ∙ ap is_some h.value in
      (λ is. sym same ∙ is, λ is. same ∙ is)
  first-there gather read (Err e) h = (λ is. absurd is, λ is. let none = ap is_some h.0 in absurd cc)

  data-is : (rva : ℕ) → (numbered_data (reads_strictly m) format m.addressing rva).value bytes
      ≡ (m.addressing.offset rva >>= (λ o. (numbered_libraries_at true format m.addressing o).value bytes))
  unfolding numbered_data
  data-is rva =
      rw strict
      (ap (λ (place : Option ℕ). place >>= (λ o. (numbered_libraries_at true format m.addressing o).value bytes))
      (strict_in_its_place 0 (m.addressing.offset rva)))

  begins : (place : Option ℕ)
      → IsSome (option_map (λ o. before_first (first_record_offset false (Some o))) (in_its_place false 0 place))
  begins None = refl
  begins (Some o) = refl

  -- Two walks over the imports at an address, one in each mode: the strict one has no error exactly if the other skips
  -- nothing, and all names can be read.
  pub walks-whole : (rva : ℕ) {S T : Type 0} (first : Result (Imports S) ErrorOf) (second : Result (Imports T) ErrorOf)
      → Walks (imports_left format) (IsImportsCause format) (λ xs. xs) first
      (mapped (flat_map (numbered_imports format.width)) (numbered_data (reads_strictly m) format m.addressing rva)) bytes
      → BeginsAt n bytes (first_import (reads_strictly n) n.addressing rva) second
      → AreWhole format m.addressing bytes rva first second
  walks-whole rva first second walks at =
      let whole = by-place (m.addressing.offset rva) in
      let strictly = first-there (λ xs. xs) _ first walks in
      let read = some-mapped (flat_map (numbered_imports format.width)) _ in
      let is : is_some ((numbered_data (reads_strictly m) format m.addressing rva).value bytes)
      ≡ is_some (m.addressing.offset rva >>= (λ o. (numbered_libraries_at true format m.addressing o).value bytes)) =
      ap is_some (data-is rva) in
      let permissively =
      second-skips (first_import (reads_strictly n) n.addressing rva)
      (option_map (λ o. before_first (first_record_offset false (Some o))) (in_its_place false 0 (m.addressing.offset rva)))
      (rw (permissive, same) refl) (begins (m.addressing.offset rva)) second at in (
        λ h. let both = whole.0 (sym is ∙ sym read ∙ strictly.0 h.0, h.1) in (permissively.1 both.0, both.1),
        λ h. let both = whole.1 (permissively.0 h.0, h.1) in (strictly.1 (read ∙ is ∙ both.0), both.1),
      )
