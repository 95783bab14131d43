-- What a walk over all imports collects is what import data has.
use Rattle.std.proofs.Common.{◌≡◌, ◌<◌, ◌≤◌, ◌+◌, ◌-◌, ◌*◌, ◌^◌, ℕ, Bool, true, false, cond, List, [], ◌∷◌, ◌++◌, map, length, Option, Some, None, refl, sym, ap, subst, ◌∙◌, append-nil, arith, lit≤, zero, suc, IsSome, not, ◌&&◌, inl, inr, is_none, option_map, slice_get, unwrap_or, flat_map, is_some}
use Rattle.std.proofs.lemmas.Bool.{cases_Bool, eq-eqb, lt-ltb}
use Rattle.std.proofs.lemmas.List.{get_or_append_left, length-append, length-map, map-append}
use Rattle.std.proofs.{lemmas.List.Concat.flat_map-append, lemmas.Simd.map-map}
use Rattle.std.proofs.{lemmas.Option.slice_get-get_or, lemmas.Iterator.Adapters.option_map_id}
use Rattle.std.proofs.Math.Seq.{get_or-append_seam}
use Rattle.goblin_base.specs.{declared.endian.Endian.TheVariants.Little, Answers.◌>>=◌}
use Rattle.goblin_base.specs.{Answers.all_at, Answers.all_of, Bytes.IsBytes, Reading.Reading}
use Rattle.goblin_base.specs.Tables.{Format, concat_below, each_below, join, made_of, or_left_out, slot_at, slot_place, stop}
use Rattle.goblin_base.proofs.{Numbers.slice_at-past, Records.record_at-some, Footprints.same-all_at}
use Rattle.goblin_base.proofs.Steps.{all_at-more, all_at-zero, all_of-map, same_value, step}
use Rattle.readings.specs.Reads.{given, in_its_place, mapped, pair_of, pick}
use Rattle.readings.specs.Walks.{IsWalkOf, end_items, items_at, refusal_of, table_walk, until_refused}
use Rattle.readings.proofs.Walks.{slot-end, walk-slot}
use Rattle.readings.proofs.WalkValues.{all_of-append, all_of-until, joined-end, walk-holds}
use Rattle.goblin_pe_import.specs.ImportRecords.{ImportDirectoryEntry, ImportedLibrary, NumberedLibrary, import_record, import_slots, is_last_record, lookup_offset}
use Rattle.goblin_pe_sect.specs.Addresses.{MapOfAddresses, offset_of, reads_strictly, Addressing}
use Rattle.goblin_pe_import.specs.ImportEntries.{EntryValue, LookupEntry, entry_slots}
use Rattle.goblin_pe_import.specs.{added.ImportCursors.before_record, LookupReadings.kept_entry}
use Rattle.goblin_pe_import.specs.ImportReadings.{at_index, first_record_offset, kept_library, library_of, numbered_data, numbered_libraries_at, read_if, read_past_front}
use Rattle.goblin_pe_import.specs.Imports.{ImportValue, NumberedImport, at_library, import_at, import_of, imports_by, numbered_imports}
use Rattle.goblin_pe_import.specs.added.ImportWalks.{imports_from_record, library_items, addresses_of, imports_next, library_name, record_index, IsCursorCause, IsImportsCause, IsWalkAt, cursor_of, imports_bytes, imports_left, imports_map, items_left, kept_import, ImportCursor, Imports}
use Rattle.goblin_pe_import.specs.KeptEntries.{entries_from, KeptValue, kept_at}
use Rattle.goblin_pe_import.proofs.{ImportBound.kept_entry-few, ListedImports.address-low}
use Rattle.goblin_pe_import.proofs.added.ImportsWalk.{imports-once, in_two_if, listed}
use Rattle.goblin_pe_import.proofs.LibraryIndexes.{few, libraries-value, numbered_at}
use Rattle.goblin_pe_import.proofs.LibraryIndexes as indexes
use Rattle.goblin_pe_import.proofs.LookupWalk.{by_index, in_slot, in_two}
use Rattle.goblin_pe_import.proofs.PermissiveReads.{lookup-there, name_strict}

-- ---- one more import

one_read : {A : Type 0} (xs : List A) (x : A) (i : ℕ) → i < length xs
    → slice_get (xs ++ x ∷ []) i ≡ slice_get xs i
one_read xs x i below =
    slice_get-get_or (xs ++ x ∷ []) i x (omega (arith, below, length-append xs (x ∷ [])))
    ∙ ap (λ y. Some y) (get_or_append_left xs (x ∷ []) x i below)
    ∙ sym (slice_get-get_or xs i x below)

last_read : {A : Type 0} (xs : List A) (x : A) (n : ℕ) → length xs ≡ n
    → slice_get (xs ++ x ∷ []) n ≡ Some x
last_read xs x n long =
    ap (slice_get (xs ++ x ∷ [])) (sym long)
    ∙ slice_get-get_or (xs ++ x ∷ []) (length xs) x (omega (arith, length-append xs (x ∷ [])))
    ∙ ap (λ y. Some y) (get_or-append_seam xs x [] x)

-- the imports of one more entry, which has a slot
imports_by-more : (size : ℕ) (dll : List ℕ) (rva : ℕ) (entries : List LookupEntry) (slots : List ℕ)
    (made : List ImportValue) (entry : LookupEntry) (slot offset : ℕ)
    → length entries ≡ length slots → offset ≡ rva + size * slot → offset < 2 ^ 64
    → imports_by size dll rva entries slots ≡ Some made
    → imports_by size dll rva (entries ++ entry ∷ []) (slots ++ slot ∷ [])
    ≡ Some (made ++ import_of dll slot offset size entry ∷ [])
unfolding imports_by
imports_by-more size dll rva entries slots made entry slot offset counted at low so_far =
    let n = length entries in
    let before : ℕ → Option ImportValue = import_at size dll rva entries slots in
    let now : ℕ → Option ImportValue =
    import_at size dll rva (entries ++ entry ∷ []) (slots ++ slot ∷ []) in
    let below : rva + size * slot < 2 ^ 64 = omega (arith, at, low) in
    let same : all_at before n ≡ all_at now n =
    same-all_at before now n (λ j within.
    let in_slots : j < length slots = omega (arith, counted, within) in
    rw (one_read entries entry j within, one_read slots slot j in_slots) refl) in
    let in_slot = last_read slots slot n (sym counted) in
    let fits = lt-ltb (rva + size * slot) (2 ^ 64) below in
    let x : ImportValue = import_of dll slot offset size entry in
    let here : now n ≡ Some x = rw (last_read entries entry n refl, in_slot, fits, at) refl in
    let long : length (entries ++ entry ∷ []) ≡ n + 1 =
    omega (arith, length-append entries (entry ∷ [])) in
    ap (all_at now) long ∙ all_at-more now n made x (sym same ∙ so_far) here

-- ---- the imports of a lookup table

module _ (strict : Bool) (format : Format EntryValue) (addressing : Addressing)
    (bytes : List ℕ) (o : ℕ) (wide : 1 ≤ format.width) (index : ℕ) (dll : List ℕ) (rva : ℕ)
    (short : length bytes < 2 ^ 63) (low : rva < 2 ^ 32) where
  -- the imports of these kept entries
  abbrev import_by : KeptValue → ImportValue
  import_by k = (kept_import format.width index dll rva o k).import

  abbrev imports : List KeptValue → List ImportValue
  imports kept = map import_by kept

  abbrev AreImports : List KeptValue → Type 0
  AreImports kept =
      imports_by format.width dll rva (in_two kept).0 (in_two kept).1 ≡ Some (imports kept)

  abbrev made : ℕ → Option (List LookupEntry)
  made i =
      made_of (entry_slots format) (λ v. (kept_entry strict addressing v).value bytes) bytes o i

  abbrev item : ℕ → LookupEntry → KeptValue
  item i = kept_at format.width o (slot_place (entry_slots format) o i)

  one_more : (n : ℕ) (kept : List KeptValue) (xs : List LookupEntry) → made n ≡ Some xs
      → length xs ≤ 1 → AreImports kept → AreImports (kept ++ map (item n) xs)
  one_more n kept [] is few so_far = rw (append-nil kept) so_far
  one_more n kept (x ∷ []) is few so_far =
      let s = step (slot_at (entry_slots format) bytes o n)
      (λ v. (kept_entry strict addressing v).value bytes) (x ∷ []) is in
      let there = record_at-some format.width format.value_of bytes (o + format.width * n) s.value s.is
      in
      let slot = in_slot format.width o n wide in
      let distance : o + format.width * n - o ≡ format.width * n = omega arith in
      let below : rva + format.width * n < 2 ^ 64 = omega (arith, there.end, short, low) in
      let counted =
      length-map kept (λ (k : KeptValue). k.entry)
      ∙ sym (length-map kept (λ (k : KeptValue). k.slot)) in
      let longer =
      imports_by-more format.width dll rva (map (λ k. k.entry) kept) (map (λ k. k.slot) kept)
      (imports kept) x n (rva + format.width * n) counted refl below so_far in
      rw (
        map-append (λ (k : KeptValue). k.entry) kept (item n x ∷ []),
        map-append (λ (k : KeptValue). k.slot) kept (item n x ∷ []),
        map-append import_by kept (item n x ∷ []),
        slot,
        distance,
      )
      longer
  one_more n kept (x ∷ y ∷ xs) is few so_far = absurd (omega (arith, few))

  -- what a walk over a lookup table collects has these imports
  pub entries-imports : (kept : List KeptValue)
      → all_of (entries_from strict format addressing bytes o (Some o)) ≡ Some kept
      → AreImports kept
  unfolding imports_by
  entries-imports kept e =
      walk-holds item made AreImports (all_at-zero (import_at format.width dll rva [] []))
      (λ n items xs is so_far.
      let s = step (slot_at (entry_slots format) bytes o n)
      (λ v. (kept_entry strict addressing v).value bytes) xs is in
      one_more n items xs is (kept_entry-few strict addressing bytes s.value xs s.then) so_far)
      strict (slot_at (entry_slots format) bytes o (stop (entry_slots format) bytes o))
      (stop (entry_slots format) bytes o) kept
      (ap all_of (sym (by_index strict format addressing bytes o)) ∙ e)

-- ---- a library

-- a library that is not left out has an address table where strict mode does not need one
same_refusal : (mode : Bool) (table : Reading (List ℕ)) (bytes : List ℕ)
    → (not mode && is_none (table.value bytes)) ≡ false
    → refusal_of {B = NumberedImport} ((pick mode table (given [])).value bytes)
    ≡ refusal_of (table.value bytes)
same_refusal true table bytes kept = refl
same_refusal false table bytes kept = none_missing (table.value bytes) kept
  where
    none_missing : (found : Option (List ℕ)) → is_none found ≡ false
        → [] ≡ refusal_of {B = NumberedImport} found
    none_missing None is = absurd cc
    none_missing (Some x) is = refl

library-value : {W A B L R X : Type 0} (strict : Bool) (make : (A × B) × R → L) (g : W → B)
    (imports_in : W → List X) (f : L → List X) (text : A) (walked : Option W)
    (addresses : Option R) → (not strict && is_none addresses) ≡ false
    → (strict ≡ false → IsSome (option_map g walked))
    → ((ks : W) (t : R) → walked ≡ Some ks → f (make ((text, g ks), t)) ≡ imports_in ks)
    → join (option_map imports_in walked) (all_of (refusal_of addresses))
    ≡ option_map (flat_map f)
    (or_left_out strict (option_map make (pair_of (pair_of (Some text) (option_map g walked)) addresses)))
library-value true make g imports_in f text None None kept there made = refl
library-value true make g imports_in f text None (Some t) kept there made = refl
library-value true make g imports_in f text (Some ks) None kept there made = refl
library-value {X = X} true make g imports_in f text (Some ks) (Some t) kept there made =
    ap (λ (xs : List X). Some (xs ++ [])) (sym (made ks t refl))
library-value false make g imports_in f text None addresses kept there made =
    let never = there refl in absurd cc
library-value false make g imports_in f text (Some ks) None kept there made = absurd cc
library-value {X = X} false make g imports_in f text (Some ks) (Some t) kept there made =
    ap (λ (xs : List X). Some (xs ++ [])) (sym (made ks t refl))

join-mapped : {L X : Type 0} (f : L → List X) (xs ys : Option (List L))
    → join (option_map (flat_map f) xs) (option_map (flat_map f) ys)
    ≡ option_map (flat_map f) (join xs ys)
join-mapped f None ys = refl
join-mapped f (Some xs) None = refl
join-mapped {X = X} f (Some xs) (Some ys) =
    ap (λ (zs : List X). Some zs) (sym (flat_map-append f xs ys))

test-mapped : {L X : Type 0} (f : List L → X) (test : Bool) (o : Option (List L))
    → cond test None (option_map f o) ≡ option_map f (cond test None o)
test-mapped f true o = refl
test-mapped f false o = refl

unnamed : {L X : Type 0} (f : L → List X) (mode test : Bool) → mode ≡ true
    → all_of {A = X} (cond (not mode && test) [] (None ∷ []))
    ≡ option_map (flat_map f) (or_left_out mode None)
unnamed f true test is = refl
unnamed f false test is = absurd cc

left-out : {A B L X : Type 0} (make : A × B → L) (f : L → List X) (mode : Bool) (b : Option B)
    (a : Option A) → (not mode && is_none b) ≡ true
    → all_of {A = X} [] ≡ option_map (flat_map f) (or_left_out mode (option_map make (pair_of a b)))
left-out make f true b a out = absurd cc
left-out make f false (Some y) a out = absurd cc
left-out make f false None None out = refl
left-out make f false None (Some x) out = refl

module _ (strict : Bool) (format : Format EntryValue) (addressing : Addressing)
    (bytes : List ℕ) (wide : 1 ≤ format.width) (short : length bytes < 2 ^ 63) where
  -- the imports of a library
  abbrev imports_in : NumberedLibrary → List NumberedImport
  imports_in = numbered_imports format.width

  module _ (index : ℕ) (r : ImportDirectoryEntry) (low : r.import_address_table_rva < 2 ^ 32) where
    -- the imports of a library with this index
    abbrev imports_here : ImportedLibrary → List NumberedImport
    imports_here library = imports_in (at_index index library)

    abbrev at : Option ℕ
    at = lookup_offset addressing r

    abbrev entries : List (Option KeptValue)
    entries = entries_from strict format addressing bytes (unwrap_or at 0) at

    abbrev import_in : List ℕ → KeptValue → NumberedImport
    import_in dll =
        kept_import format.width index dll r.import_address_table_rva (unwrap_or at 0)

    abbrev library : List ℕ → Option (List LookupEntry) × List ℕ → List ℕ → ImportedLibrary
    library dll both addresses = record {
      import_directory_entry = r;
      name = dll;
      import_lookup_table = both.0;
      import_lookup_slots = both.1;
      import_address_table = addresses;
    }

    abbrev table : Reading (List ℕ)
    table = addresses_of format addressing r

    abbrev record_import : List ℕ → Option ℕ → KeptValue → ImportValue
    record_import dll place k =
        (kept_import format.width index dll r.import_address_table_rva (unwrap_or place 0) k).import

    by_count : (counted : Bool) (made : Option (List ImportValue)) (item : KeptValue → ImportValue)
        (ks : List KeptValue) → counted ≡ true → made ≡ Some (map item ks)
        → map (at_library index) (unwrap_or (cond counted made None) [])
        ≡ map (λ k. at_library index (item k)) ks
    by_count true made item ks is e = rw e (map-map (at_library index) item ks)
    by_count false made item ks is e = absurd cc

    library-imports : (dll : List ℕ) (place : Option ℕ) (ks : List KeptValue) (addresses : List ℕ)
        → all_of (entries_from strict format addressing bytes (unwrap_or place 0) place)
        ≡ Some ks
        → imports_here (library dll (in_two_if place ks) addresses)
        ≡ map
        (kept_import format.width index dll r.import_address_table_rva (unwrap_or place 0)) ks
    unfolding entries_from imports_by
    library-imports dll None ks addresses e =
        let none = same_value [] ks e in
        by_count true (imports_by format.width dll r.import_address_table_rva [] []) (record_import dll None) ks refl
        (all_at-zero (import_at format.width dll r.import_address_table_rva [] [])
        ∙ ap (λ (ks : List KeptValue). Some (map (record_import dll None) ks)) none)
    library-imports dll (Some o) ks addresses e =
        let counted =
        length-map ks (λ (k : KeptValue). k.entry)
        ∙ sym (length-map ks (λ (k : KeptValue). k.slot)) in
        by_count _ (imports_by format.width dll r.import_address_table_rva (in_two ks).0 (in_two ks).1) (record_import dll (Some o)) ks
        (eq-eqb (length (in_two ks).0) (length (in_two ks).1) counted)
        (entries-imports strict format addressing bytes o wide index dll r.import_address_table_rva short
        low ks e)

    -- collecting what comes of a record gives the imports of its library
    record-value : all_of (library_items strict format addressing bytes None index r)
        ≡ option_map (flat_map imports_here) ((kept_library strict format addressing r).value bytes)
    unfolding library_items library_of
    record-value = by_name ((library_name strict addressing r).value bytes) refl
      where
        by_name : (name : Option (List ℕ))
            → (library_name strict addressing r).value bytes ≡ name
            → all_of (library_items strict format addressing bytes None index r)
            ≡ option_map (flat_map imports_here)
            ((kept_library strict format addressing r).value bytes)
        by_name None is = rw is (unnamed imports_here strict _ (name_strict strict _ is))
        by_name (Some dll) is =
            elim (cases_Bool (not strict && is_none (table.value bytes))) [
              | inl out ↦ rw out (left-out _ imports_here strict (table.value bytes) _ out)
              | inr kept ↦
                  let same = listed strict format addressing bytes wide at in
                  rw (kept, is, same, same_refusal strict table bytes kept)
                  (all_of-append (map (option_map (import_in dll)) entries)
                  (refusal_of (table.value bytes))
                  ∙ ap
                  (λ (o : Option (List NumberedImport)). join o
                  (all_of {A = NumberedImport} (refusal_of (table.value bytes))))
                  (all_of-map (import_in dll) entries)
                  ∙ library-value strict _ (in_two_if at) (map (import_in dll)) imports_here dll
                  (all_of entries) (table.value bytes) kept
                  (λ permissive.
                  subst IsSome same (lookup-there strict format addressing bytes permissive at))
                  (λ ks t here. library-imports dll at ks t here))
            ]

  -- ---- the directory

  -- what is kept of libraries with an index
  indexed-map : (i : ℕ) (kept : Option (List ImportedLibrary))
      → option_map (flat_map (λ library. imports_in (at_index i library))) kept
      ≡ option_map (flat_map imports_in) (option_map (map (at_index i)) kept)
  indexed-map i None = refl
  indexed-map i (Some ls) = ap (λ (xs : List NumberedImport). Some xs) (each ls)
    where
      each : (ls : List ImportedLibrary)
          → flat_map (λ library. imports_in (at_index i library)) ls
          ≡ flat_map imports_in (map (at_index i) ls)
      each [] = refl
      each (l ∷ ls) = ap (λ (xs : List NumberedImport). imports_in (at_index i l) ++ xs) (each ls)

  module _ (octets : IsBytes bytes) (o : ℕ) where
    abbrev record_at : ℕ → Option ImportDirectoryEntry
    record_at i = slot_at import_slots bytes o i

    abbrev pieces : ℕ → Option (List NumberedLibrary)
    pieces = numbered_at (indexes.kept_at strict format addressing bytes o) (few strict format addressing bytes o)

    abbrev items : ℕ → ImportDirectoryEntry → List (Option NumberedImport)
    items p r = library_items strict format addressing bytes None (record_index o p) r

    abbrev comes_of : ℕ → List (Option NumberedImport)
    comes_of i = items_at items (slot_place import_slots o i) (record_at i)

    slot-value : (i : ℕ) → all_of (comes_of i) ≡ option_map (flat_map imports_in) (pieces i)
    slot-value i = by_slot (record_at i) refl
      where
        by_slot : (slot : Option ImportDirectoryEntry) → record_at i ≡ slot
            → all_of (items_at items (slot_place import_slots o i) slot)
            ≡ option_map (flat_map imports_in)
            (option_map (map (at_index i))
            (slot >>= λ r. (kept_library strict format addressing r).value bytes))
        by_slot None is = refl
        by_slot (Some r) is =
            let there =
            record_at-some 20 (import_record Little) bytes (slot_place import_slots o i) r is in
            let low : r.import_address_table_rva < 2 ^ 32 =
            subst (λ (r : ImportDirectoryEntry). r.import_address_table_rva < 2 ^ 32) (sym there.is)
            (address-low strict format addressing bytes octets (slot_place import_slots o i)) in
            ap
            (λ (index : ℕ). all_of (library_items strict format addressing bytes None index r))
            (in_slot 20 o i (lit≤ tt))
            ∙ record-value i r low ∙ indexed-map i ((kept_library strict format addressing r).value bytes)

    below-value : (n : ℕ) → all_of (concat_below comes_of n)
        ≡ option_map (flat_map imports_in) (each_below pieces n)
    below-value zero = refl
    below-value (suc n) =
        all_of-append (concat_below comes_of n) (comes_of n)
        ∙ ap (λ (o : Option (List NumberedImport)). join o (all_of (comes_of n))) (below-value n)
        ∙ ap
        (λ (o : Option (List NumberedImport)).
        join (option_map (flat_map imports_in) (each_below pieces n)) o)
        (slot-value n)
        ∙ join-mapped imports_in (each_below pieces n) (pieces n)

    -- collecting a walk over all imports gives those of the directory's libraries
    pub imports-value : all_of (imports_from_record strict format addressing bytes o o)
        ≡ (mapped (flat_map imports_in) (numbered_libraries_at strict format addressing o)).value bytes
    unfolding imports_from_record table_walk
    imports-value =
        let n = stop import_slots bytes o in
        let end = record_at n in
        all_of-until (concat_below comes_of n ++ end_items strict end)
        ∙ all_of-append (concat_below comes_of n) (end_items strict end)
        ∙ joined-end strict end (all_of (concat_below comes_of n))
        ∙ ap
        (λ (o : Option (List NumberedImport)). cond (strict && not (is_some end)) None o)
        (below-value n)
        ∙ test-mapped (flat_map imports_in) (strict && not (is_some end)) (each_below pieces n)
        ∙ ap (option_map (flat_map imports_in)) (sym (libraries-value strict format addressing bytes o))

-- the same of a walk that begins at a directory
module _ (m : MapOfAddresses) (format : Format EntryValue) (bytes : List ℕ) (o : ℕ)
    (wide : 1 ≤ format.width) (short : length bytes < 2 ^ 63) (octets : IsBytes bytes) where
  abbrev reading : Reading (List NumberedImport)
  reading =
      mapped (flat_map (numbered_imports format.width))
      (numbered_libraries_at (reads_strictly m) format m.addressing o)

  walked-by : (k : MapOfAddresses) (file dll : List ℕ) (c : ImportCursor) → k ≡ m → file ≡ bytes
      → c ≡ before_record o
      → IsWalkOf (λ xs. xs) reading bytes
      (items_left (reads_strictly k) format k.addressing file dll c) (IsCursorCause k format file c)
  unfolding entries_from imports_next numbered_libraries_at
  walked-by k file dll c by over at =
      rw (by, over, at)
      (record {
        value =
            option_map_id _ ∙ ap all_of (imports-once (reads_strictly m) format m.addressing bytes o o)
            ∙ imports-value (reads_strictly m) format m.addressing bytes wide short octets o;
        cause = λ e fault. fault.1;
      })

  pub imports-walked : {T : Type 0} (it : Imports T) → IsWalkAt m bytes (before_record o) it
      → IsWalkOf (λ xs. xs) reading bytes (imports_left format it) (IsImportsCause format it)
  imports-walked it h =
      walked-by (imports_map it) (imports_bytes it) it.walk.dll.now (cursor_of it) h.over.1 h.over.0 h.at

-- and of one that permissive mode begins at no record
module _ (m : MapOfAddresses) (format : Format EntryValue) (bytes : List ℕ) (rva : ℕ) where
  none-by : (strict : Bool) (place : Option ℕ) → strict ≡ false → first_record_offset strict place ≡ None
      → (in_its_place strict 0 place
      >>= λ o.
      (read_past_front strict (numbered_libraries_at strict format m.addressing) o).value bytes)
      ≡ Some []
  none-by true place permissive none = absurd cc
  none-by false None permissive none = refl
  none-by false (Some o) permissive none =
      ap
      (λ (first : Option ℕ). (read_if (numbered_libraries_at false format m.addressing) first).value bytes)
      none

  -- no descriptor lies behind the file
  none-at : (by : MapOfAddresses) (over dll : List ℕ) (c : ImportCursor) → by ≡ m → over ≡ bytes
      → c ≡ before_record (2 ^ 64 - 1) → reads_strictly m ≡ false → length bytes < 2 ^ 63
      → items_left (reads_strictly by) format by.addressing over dll c ≡ []
  unfolding entries_from imports_next imports_from_record
  none-at by over dll c same is at permissive short =
      let p = 2 ^ 64 - 1 in
      let strict = reads_strictly m in
      let items = λ (q : ℕ) (r : ImportDirectoryEntry). library_items strict format m.addressing bytes None (record_index p q) r
      in
      let slot = ap (option_map (import_record Little)) (slice_at-past bytes p 20 (omega (arith, short)))
      in
      rw (same, is, at)
      (ap until_refused
      (walk-slot import_slots items bytes strict (lit≤ tt) p None slot
      ∙ slot-end strict is_last_record (items p) (table_walk import_slots strict items bytes (p + 20)) None refl (ap (λ (needed : Bool). needed && true) permissive)))

  pub imports-none : reads_strictly m ≡ false → length bytes < 2 ^ 63
      → first_record_offset (reads_strictly m) (offset_of m rva) ≡ None → {T : Type 0} (it : Imports T)
      → IsWalkAt m bytes (before_record (2 ^ 64 - 1)) it
      → IsWalkOf (λ xs. xs)
      (mapped (flat_map (numbered_imports format.width))
      (numbered_data (reads_strictly m) format m.addressing rva))
      bytes (imports_left format it) (IsImportsCause format it)
  unfolding numbered_data
  imports-none permissive short none it h =
      let read = none-by (reads_strictly m) (offset_of m rva) permissive none in
      let left = none-at (imports_map it) (imports_bytes it) it.walk.dll.now (cursor_of it) h.over.1
      h.over.0 h.at permissive short in
      subst
      (λ (left : List (Option NumberedImport)).
      IsWalkOf (λ xs. xs)
      (mapped (flat_map (numbered_imports format.width))
      (numbered_data (reads_strictly m) format m.addressing rva))
      bytes left (IsImportsCause format it))
      (sym left)
      (record {
        value = sym (ap (option_map (flat_map (numbered_imports format.width))) read);
        cause = λ e fault. absurd (cc (fault.0, ap reads_strictly h.over.1, permissive));
      })
