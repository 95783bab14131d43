-- Of import data that was read a list of imports can be made: each entry that a lookup table keeps has a slot, whose address does not pass 64 bits.
use Rattle.std.proofs.Common.{◌≡◌, ℕ, zero, suc, ◌+◌, ◌*◌, ◌<◌, ◌≤◌, ◌^◌, ◌&&◌, Bool, true, cond, not, List, [], ◌∷◌, length, map, Option, Some, None, IsSome, refl, sym, ap, subst, arith, ◌∙◌, slice_get, slice_range, unwrap_or, get_or, lt-ltb, eq-eqb, length-append, is_some}
use Rattle.std.specs.List.{All, filter, range_with_len}
use Rattle.readings.proofs.{WalkValues.kept-next, Pairs.both, Pairs.with_slots-both}
use Rattle.std.proofs.lemmas.List.Elements.{All-append, All-cons, All-head, All-nil, All-tail}
use Rattle.std.proofs.lemmas.Option.{slice_get-get_or}
use Rattle.goblin_base.specs.{declared.endian.Endian.TheVariants.Little, Bytes.IsBytes}
use Rattle.goblin_base.specs.Answers.{◌>>=◌, all_of}
use Rattle.goblin_base.specs.Tables.{Format, each_below, is_kept, kept_slots, made_of, or_left_out, slot_at, slot_place, slot_table, stop}
use Rattle.goblin_base.proofs.Below.{each_below-there, join-parts, least-before}
use Rattle.goblin_base.proofs.{Kept.without_test, RecordRoundTrip.IsBytes-slice}
use Rattle.goblin_base.proofs.{RecordRoundTrip.number-lt, Records.record_at-some, SlotTables.ends}
use Rattle.goblin_base.proofs.{SlotTables.kept-below, Steps.mapped, Steps.same_value, Steps.step}
use Rattle.goblin_pe_sect.specs.{AddressReadings.name_at, Addresses.Addressing}
use Rattle.goblin_pe_import.specs.ImportRecords.{ImportDirectoryEntry, ImportedLibrary, import_record, import_slots, lookup_offset}
use Rattle.readings.specs.Reads.{in_its_place, pair_of}
use Rattle.goblin_pe_import.specs.ImportEntries.{EntryValue, LookupEntry, entry_slots}
use Rattle.goblin_pe_import.specs.{ImportEntries.LookupEntry.ByOrdinal, ImportLookup.lookup_slots}
use Rattle.goblin_pe_import.specs.ImportReadings as directory
use Rattle.goblin_pe_import.specs.LookupReadings as reading
use Rattle.goblin_pe_import.proofs.ImportBound.{in_directory, kept_entry-few, left_out-or, slots_fit}
use Rattle.goblin_pe_import.specs.Imports.{has_slots, import_at, import_of, import_offset, imports_by, imports_of, kept_entries, library_imports}

-- ---- what holds of each of a list

each_below-each : {A : Type 0} (P : A → Type 0) (piece : ℕ → Option (List A)) (n : ℕ) → ((j : ℕ) (xs : List A) → piece j ≡ Some xs → All P xs) → (ys : List A) → each_below piece n ≡ Some ys → All P ys
each_below-each P piece zero own ys e = subst (All P) (same_value [] ys e) (All-nil P)
each_below-each P piece (suc n) own ys e =
    let parts = join-parts (each_below piece n) (piece n) ys e in
    let before = each_below-each P piece n own parts.0 parts.2 in
    subst (All P) (sym parts.4) (All-append P parts.0 parts.1 before (own n parts.1 parts.3))

-- ---- values that are all there

first-there : {A : Type 0} (value : Option A) (rest : Option (List A)) → IsSome value → IsSome rest → IsSome (value >>= λ first. rest >>= λ others. Some (first ∷ others))
first-there None rest h k = absurd cc
first-there (Some a) None h k = absurd cc
first-there (Some a) (Some xs) h k = refl

all_of-there : {A : Type 0} (value : ℕ → Option A) (len start : ℕ) → ((i : ℕ) → start ≤ i → i < start + len → IsSome (value i)) → IsSome (all_of (map value (range_with_len start len)))
all_of-there value zero start there = refl
all_of-there value (suc len) start there =
    first-there (value start) (all_of (map value (range_with_len (start + 1) len))) (there start (omega arith) (omega arith))
    (all_of-there value len (start + 1) (λ i low high. there i (omega (arith, low)) (omega (arith, high))))

-- ---- a table keeps as many entries as slots

one-counted : {A : Type 0} (i : ℕ) (xs : List A) → length xs ≤ 1 → length (cond (is_kept (Some xs)) (i ∷ []) []) ≡ length xs
one-counted i [] few = refl
one-counted i (x ∷ []) few = refl
one-counted i (x ∷ y ∷ xs) few = absurd (omega (arith, few))

pub pieces-counted : {A : Type 0} (piece : ℕ → Option (List A)) (n : ℕ) → ((j : ℕ) (xs : List A) → piece j ≡ Some xs → length xs ≤ 1) → (ys : List A) → each_below piece n ≡ Some ys
    → length (filter (λ i. is_kept (piece i)) (range_with_len 0 n)) ≡ length ys
pieces-counted piece zero few ys e = ap length (same_value [] ys e)
pieces-counted piece (suc n) few ys e =
    let parts = join-parts (each_below piece n) (piece n) ys e in
    let before = pieces-counted piece n few parts.0 parts.2 in
    let last = one-counted n parts.1 (few n parts.1 parts.3) in
    let kept = filter (λ i. is_kept (piece i)) (range_with_len 0 n) in
    let all = ap length (kept-next piece n (Some parts.1) parts.3) ∙ length-append kept (cond (is_kept (Some parts.1)) (n ∷ []) []) in
    omega (arith, before, last, all, ap length parts.4, length-append parts.0 parts.1)

module _ (strict : Bool) (format : Format EntryValue) (addressing : Addressing) (file : List ℕ) where
  table-counted : (o : ℕ) (entries : List LookupEntry) → (reading.lookup_table strict format addressing o).value file ≡ Some entries → length entries ≡ length (lookup_slots strict format addressing file o)
  unfolding slot_table kept_slots
  table-counted o entries e =
      let slots = entry_slots format in
      let piece : ℕ → Option (List LookupEntry) = made_of slots (λ entry. (reading.kept_entry strict addressing entry).value file) file o in
      let n = stop slots file o in
      let made = without_test (strict && not (is_some (slot_at slots file o n))) (each_below piece n) entries e in
      sym (pieces-counted piece n (λ j xs is. let s = step (slot_at slots file o j) (λ entry. (reading.kept_entry strict addressing entry).value file) xs is in kept_entry-few strict addressing file s.value xs s.then) entries made)

  -- each slot lies in the file
  abbrev AreSlots : List ℕ → Type 0
  AreSlots slots = All (λ slot. format.width * slot ≤ length file) slots

  in_file : (o slot : ℕ) → slot < stop (entry_slots format) file o → format.width * slot ≤ length file
  unfolding stop
  in_file o slot below =
      omega (arith, slots_fit (entry_slots format) file o slot (λ j before. least-before (ends (entry_slots format) file o) (length file) j (omega (arith, before, below))))

  table-slots : (o : ℕ) → AreSlots (lookup_slots strict format addressing file o)
  table-slots o k d within = in_file o _ (kept-below (entry_slots format) (λ entry. (reading.kept_entry strict addressing entry).value file) file o k d within)

  -- the entries of a table have as many slots, in the file
  abbrev HaveSlots : Option (List LookupEntry) → List ℕ → Type 0
  HaveSlots table slots = (length (unwrap_or table []) ≡ length slots) × AreSlots slots

  table_if-slots : (place : Option ℕ) (both : Option (List LookupEntry) × List ℕ) → (directory.lookup_if strict format addressing place).value file ≡ Some both → HaveSlots both.0 both.1
  unfolding directory.lookup_if
  table_if-slots None both e =
      subst (λ (t : Option (List LookupEntry) × List ℕ). HaveSlots t.0 t.1) (same_value (None, []) both e) (refl, λ k d within. absurd (omega (arith, within)))
  table_if-slots (Some o) both e =
      let made = (reading.lookup_table strict format addressing o).value file in
      let m = mapped ((reading.lookup_with_slots strict format addressing o).value file) _ both e in
      let parts = with_slots-both _ made m.value m.is in
      let have : HaveSlots (Some m.value.0) m.value.1 = subst (λ (slots : List ℕ). HaveSlots (Some m.value.0) slots) parts.1 (table-counted o m.value.0 parts.0, table-slots o) in
      subst (λ (t : Option (List LookupEntry) × List ℕ). HaveSlots t.0 t.1) m.made have

  -- a library has a slot for each entry, in the file, and its address table an address of 32 bits
  abbrev IsListed : ImportedLibrary → Type 0
  IsListed library = HaveSlots library.import_lookup_table library.import_lookup_slots × (library.import_directory_entry.import_address_table_rva < 2 ^ 32)

  library-listed : (r : ImportDirectoryEntry) (library : ImportedLibrary) → r.import_address_table_rva < 2 ^ 32 → (directory.library_of strict format addressing r).value file ≡ Some library → IsListed library
  unfolding directory.library_of
  library-listed r library low e =
      let place = lookup_offset addressing r in
      let name = in_its_place strict [] ((name_at addressing r.name_rva).value file) in
      let look = (directory.lookup_if strict format addressing place).value file in
      let m = mapped (pair_of (pair_of name look) _) _ library e in
      let there = (both name look m.value.0 (both (pair_of name look) _ m.value m.is).first).second in
      subst IsListed m.made (table_if-slots place m.value.0.1 there, low)

  module _ (bytes : IsBytes file) where
    pub address-low : (p : ℕ) → (import_record Little (slice_range file p (p + 20))).import_address_table_rva < 2 ^ 32
    address-low p = number-lt Little 4 (slice_range file p (p + 20)) 16 (IsBytes-slice file p 20 bytes)

    libraries_at-listed : (o : ℕ) (xs : List ImportedLibrary) → (directory.libraries_at strict format addressing o).value file ≡ Some xs → All IsListed xs
    unfolding slot_table
    libraries_at-listed o xs e =
        let piece : ImportDirectoryEntry → Option (List ImportedLibrary) = λ r. or_left_out strict ((directory.library_of strict format addressing r).value file) in
        let n = stop import_slots file o in
        let made = without_test (strict && not (is_some (slot_at import_slots file o n))) (each_below (λ i. slot_at import_slots file o i >>= piece) n) xs e in
        each_below-each IsListed (λ i. slot_at import_slots file o i >>= piece) n
        (λ j ys is.
        let s = step (slot_at import_slots file o j) piece ys is in
        let record_there = record_at-some 20 (import_record Little) file (slot_place import_slots o j) s.value s.is in
        let low : s.value.import_address_table_rva < 2 ^ 32 = subst (λ (r : ImportDirectoryEntry). r.import_address_table_rva < 2 ^ 32) (sym record_there.is) (address-low (slot_place import_slots o j)) in
        left_out-or strict ((directory.library_of strict format addressing s.value).value file) ys (All IsListed) (All-nil IsListed) (λ l here. All-cons IsListed l [] (library-listed s.value l low here) (All-nil IsListed)) s.then)
        xs made

    imported : (rva : ℕ) (xs : List ImportedLibrary) → (directory.import_data strict format addressing rva).value file ≡ Some xs → All IsListed xs
    imported rva xs e = in_directory strict format addressing file rva xs e (All IsListed) (All-nil IsListed) (λ o is here. libraries_at-listed o xs here)

  -- ---- the imports of a library that has its slots

  module _ (short : length file < 2 ^ 63) where
    offset-there : (rva slot : ℕ) → rva < 2 ^ 32 → format.width * slot ≤ length file → IsSome (import_offset rva format.width slot)
    offset-there rva slot low fits =
        let below : rva + format.width * slot < 2 ^ 64 = omega (arith, low, fits, short) in
        rw (lt-ltb (rva + format.width * slot) (2 ^ 64) below) refl

    made-there : (dll : List ℕ) (rva slot : ℕ) (entry : LookupEntry) → IsSome (import_offset rva format.width slot) → IsSome (import_offset rva format.width slot >>= λ o. Some (import_of dll slot o format.width entry))
    made-there dll rva slot entry there = by_offset (import_offset rva format.width slot) there
      where
        by_offset : (offset : Option ℕ) → IsSome offset → IsSome (offset >>= λ o. Some (import_of dll slot o format.width entry))
        by_offset None h = absurd cc
        by_offset (Some o) h = refl

    import-there : (dll : List ℕ) (rva : ℕ) (entries : List LookupEntry) (slots : List ℕ) (d : LookupEntry) → rva < 2 ^ 32 → length entries ≡ length slots → AreSlots slots → (i : ℕ) → i < length entries → IsSome (import_at format.width dll rva entries slots i)
    import-there dll rva entries slots d low same fit i within =
        let below : i < length slots = omega (arith, same, within) in
        let there = made-there dll rva (get_or slots i 0) (get_or entries i d) (offset-there rva (get_or slots i 0) low (fit i 0 below)) in
        rw (slice_get-get_or entries i d within, slice_get-get_or slots i 0 below) there

    imports_by-there : (dll : List ℕ) (rva : ℕ) (entries : List LookupEntry) (slots : List ℕ) → rva < 2 ^ 32 → length entries ≡ length slots → AreSlots slots → IsSome (imports_by format.width dll rva entries slots)
    unfolding imports_by
    imports_by-there dll rva entries slots low same fit =
        all_of-there (import_at format.width dll rva entries slots) (length entries) 0
        (λ i low_i high. import-there dll rva entries slots (ByOrdinal 0) low same fit i (omega (arith, high)))

    library-there : (library : ImportedLibrary) → IsListed library → IsSome (library_imports format.width library)
    library-there library listed =
        let counted : has_slots library ≡ true = eq-eqb (length (kept_entries library)) (length library.import_lookup_slots) listed.0.0 in
        rw counted (imports_by-there library.name library.import_directory_entry.import_address_table_rva (kept_entries library) library.import_lookup_slots listed.1 listed.0.0 listed.0.1)

    step-there : (libraries : List ImportedLibrary) (i : ℕ) → All IsListed libraries → i < length libraries → IsSome (slice_get libraries i >>= library_imports format.width)
    step-there [] i listed below = absurd (omega (arith, below))
    step-there (x ∷ xs) zero listed below = library-there x (All-head IsListed x xs listed)
    step-there (x ∷ xs) (suc i) listed below = step-there xs i (All-tail IsListed x xs listed) (omega (arith, below))

    imports-there : (libraries : List ImportedLibrary) → All IsListed libraries → IsSome (imports_of format.width libraries)
    unfolding imports_of
    imports-there libraries listed =
        each_below-there (λ i. slice_get libraries i >>= library_imports format.width) (length libraries) (λ i below. step-there libraries i listed below)

    -- the imports of import data that was read
    pub imports_of-there : IsBytes file → (rva : ℕ) (libraries : List ImportedLibrary) → (directory.import_data strict format addressing rva).value file ≡ Some libraries → IsSome (imports_of format.width libraries)
    imports_of-there bytes rva libraries e = imports-there libraries (imported bytes rva libraries e)
