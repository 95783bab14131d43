-- The libraries of a directory with the indexes of their records, record by record.
use Rattle.std.proofs.Common.{◌≡◌, ◌≤◌, ◌++◌, ◌∷◌, ℕ, zero, suc, Bool, true, false, List, [], Option, Some, None, length, map, cond, not, ◌&&◌, refl, sym, ap, ◌∙◌, arith, option_map, is_some, IfSome}
use Rattle.std.specs.List.{filter, range_with_len}
use Rattle.goblin_base.specs.{declared.error.ErrorOf.ErrorOf}
use Rattle.goblin_base.specs.Answers.{◌>>=◌, FirstFault}
use Rattle.goblin_base.specs.Tables.{Format, each_below, is_kept, join, kept_slots, made_of, slot_at, slot_table, stop}
use Rattle.readings.specs.Reads.{in_its_place, with_slots}
use Rattle.goblin_pe_sect.specs.{AddressReadings.offset_at, Addresses.Addressing}
use Rattle.readings.proofs.{WalkValues.kept-next, Pairs.with_slots-both}
use Rattle.goblin_pe_import.specs.ImportRecords.{ImportDirectoryEntry}
use Rattle.goblin_pe_import.specs.ImportEntries.{EntryValue}
use Rattle.goblin_pe_import.specs.ImportReadings.{at_index, indexed_at, library_of, numbered, read_if, kept_library, import_data, libraries_at, read_past_front, first_record_offset, numbered_data, numbered_libraries_at}
use Rattle.goblin_pe_import.specs.ImportRecords.{ImportedLibrary, NumberedLibrary, import_slots}
use Rattle.goblin_base.proofs.Kept.{without_test}
use Rattle.goblin_pe_import.proofs.{ImportBound.left_out-or, ListedImports.pieces-counted}

-- one more record, which keeps at most one library
numbered-append : (xs ys : List ImportedLibrary) (indexes : List ℕ) (n : ℕ)
    → length indexes ≡ length xs → length ys ≤ 1
    → numbered (xs ++ ys) (indexes ++ cond (is_kept (Some ys)) (n ∷ []) [])
    ≡ numbered xs indexes ++ map (at_index n) ys
unfolding numbered
numbered-append [] [] [] n same few = refl
numbered-append [] (y ∷ []) [] n same few = refl
numbered-append [] (y ∷ z ∷ ys) [] n same few = absurd (omega (arith, few))
numbered-append [] ys (i ∷ indexes) n same few = absurd (omega (arith, same))
numbered-append (x ∷ xs) ys [] n same few = absurd (omega (arith, same))
numbered-append (x ∷ xs) ys (i ∷ indexes) n same few =
    ap (λ (ls : List NumberedLibrary). at_index i x ∷ ls)
    (numbered-append xs ys indexes n (omega (arith, same)) few)

module _ (made : ℕ → Option (List ImportedLibrary))
    (few : (i : ℕ) (xs : List ImportedLibrary) → made i ≡ Some xs → length xs ≤ 1) where
  -- the indexes of the records below n whose libraries are kept
  abbrev pub kept_below : ℕ → List ℕ
  kept_below n = filter (λ i. is_kept (made i)) (range_with_len 0 n)

  -- what is kept of a record, with its index
  abbrev pub numbered_at : ℕ → Option (List NumberedLibrary)
  numbered_at i = option_map (map (at_index i)) (made i)

  pub numbered-next : (n : ℕ) (xs ys : List ImportedLibrary) → each_below made n ≡ Some xs
      → made n ≡ Some ys
      → numbered (xs ++ ys) (kept_below (suc n)) ≡ numbered xs (kept_below n) ++ map (at_index n) ys
  numbered-next n xs ys so_far is =
      ap (numbered (xs ++ ys)) (kept-next made n (Some ys) is)
      ∙ numbered-append xs ys (kept_below n) n (pieces-counted made n few xs so_far) (few n ys is)

  pub numbered-below : (n : ℕ)
      → each_below numbered_at n
      ≡ option_map (λ xs. numbered xs (kept_below n)) (each_below made n)
  unfolding numbered
  numbered-below zero = refl
  numbered-below (suc n) =
      ap (λ (o : Option (List NumberedLibrary)). join o (numbered_at n)) (numbered-below n)
      ∙ by_parts (each_below made n) (made n) refl refl
    where
      by_parts : (before here : Option (List ImportedLibrary)) → each_below made n ≡ before
          → made n ≡ here
          → join (option_map (λ xs. numbered xs (kept_below n)) before)
          (option_map (map (at_index n)) here)
          ≡ option_map (λ xs. numbered xs (kept_below (suc n))) (join before here)
      by_parts None here so_far is = refl
      by_parts (Some xs) None so_far is = refl
      by_parts (Some xs) (Some ys) so_far is =
          ap (λ (ls : List NumberedLibrary). Some ls) (sym (numbered-next n xs ys so_far is))

-- ---- a directory

module _ (strict : Bool) (format : Format EntryValue) (addressing : Addressing)
    (bytes : List ℕ) (o : ℕ) where
  abbrev piece : ImportDirectoryEntry → Option (List ImportedLibrary)
  piece r = (kept_library strict format addressing r).value bytes

  abbrev pub kept_at : ℕ → Option (List ImportedLibrary)
  kept_at = made_of import_slots piece bytes o

  pub one_library : (r : ImportDirectoryEntry) (xs : List ImportedLibrary) → piece r ≡ Some xs
      → length xs ≤ 1
  one_library r xs is =
      left_out-or strict ((library_of strict format addressing r).value bytes) xs
      (λ ls. length ls ≤ 1) (omega arith) (λ l here. omega arith) is

  pub few : (i : ℕ) (xs : List ImportedLibrary) → kept_at i ≡ Some xs → length xs ≤ 1
  few i xs is = by_slot (slot_at import_slots bytes o i) is
    where
      by_slot : (slot : Option ImportDirectoryEntry) → (slot >>= piece) ≡ Some xs → length xs ≤ 1
      by_slot None is = absurd cc
      by_slot (Some r) is = one_library r xs is

  -- the libraries, record by record
  pub libraries-value : (numbered_libraries_at strict format addressing o).value bytes
      ≡ cond (strict && not (is_some (slot_at import_slots bytes o (stop import_slots bytes o)))) None
      (each_below (numbered_at kept_at few) (stop import_slots bytes o))
  unfolding numbered_libraries_at slot_table kept_slots
  libraries-value =
      let n = stop import_slots bytes o in
      by_test (strict && not (is_some (slot_at import_slots bytes o n))) (each_below kept_at n)
      (each_below (numbered_at kept_at few) n) (kept_below kept_at few n) (numbered-below kept_at few n)
    where
      by_test : (test : Bool) (before : Option (List ImportedLibrary))
          (after : Option (List NumberedLibrary)) (indexes : List ℕ)
          → after ≡ option_map (λ xs. numbered xs indexes) before
          → option_map (λ both. numbered both.0 both.1) (with_slots indexes (cond test None before))
          ≡ cond test None after
      by_test true before after indexes is = refl
      by_test false None after indexes is = sym is
      by_test false (Some xs) after indexes is = sym is

  -- each library that is kept has an index
  counted-both : (both : List ImportedLibrary × List ℕ)
      → (indexed_at strict format addressing o).value bytes ≡ Some both
      → length both.1 ≡ length both.0
  unfolding slot_table kept_slots
  counted-both both is =
      let n = stop import_slots bytes o in
      let end = strict && not (is_some (slot_at import_slots bytes o n)) in
      let parts = with_slots-both _ _ both is in
      let made = without_test end (each_below kept_at n) both.0 parts.0 in
      ap (λ (indexes : List ℕ). length indexes) (sym parts.1)
      ∙ pieces-counted kept_at n few both.0 made

  pub counted : IfSome ((indexed_at strict format addressing o).value bytes)
      (λ both. length both.1 ≡ length both.0)
  counted = each_of ((indexed_at strict format addressing o).value bytes) counted-both
    where
      each_of : (made : Option (List ImportedLibrary × List ℕ))
          → ((both : List ImportedLibrary × List ℕ) → made ≡ Some both
          → length both.1 ≡ length both.0)
          → IfSome made (λ both. length both.1 ≡ length both.0)
      each_of None holds = tt
      each_of (Some both) holds = holds both refl

-- ---- the libraries without their indexes

module _ (strict : Bool) (format : Format EntryValue) (addressing : Addressing)
    (bytes : List ℕ) where
  abbrev pub libraries_of : List NumberedLibrary → List ImportedLibrary
  libraries_of = map (λ x. x.library)

  numbered-off : (xs : List ImportedLibrary) (indexes : List ℕ) → length indexes ≡ length xs
      → xs ≡ libraries_of (numbered xs indexes)
  unfolding numbered
  numbered-off [] indexes same = refl
  numbered-off (x ∷ xs) [] same = absurd (omega (arith, same))
  numbered-off (x ∷ xs) (i ∷ indexes) same =
      ap (λ (ls : List ImportedLibrary). x ∷ ls) (numbered-off xs indexes (omega (arith, same)))

  libraries-off : (o : ℕ) → (libraries_at strict format addressing o).value bytes
      ≡ option_map libraries_of ((numbered_libraries_at strict format addressing o).value bytes)
  unfolding numbered_libraries_at
  libraries-off o = by ((libraries_at strict format addressing o).value bytes) refl
    where
      by : (made : Option (List ImportedLibrary))
          → (libraries_at strict format addressing o).value bytes ≡ made
          → made ≡ option_map libraries_of
          (option_map (λ both. numbered both.0 both.1)
          (with_slots (kept_slots import_slots
          (λ r. (kept_library strict format addressing r).value bytes) bytes o) made))
      by None is = refl
      by (Some xs) is =
          let kept =
          kept_slots import_slots (λ r. (kept_library strict format addressing r).value bytes) bytes o in
          let both = ap (with_slots kept) is in
          ap (λ (ls : List ImportedLibrary). Some ls)
          (numbered-off xs kept (counted-both strict format addressing bytes o (xs, kept) both))

  if-off : (p : Option ℕ) → (read_if (libraries_at strict format addressing) p).value bytes
      ≡ option_map libraries_of
      ((read_if (numbered_libraries_at strict format addressing) p).value bytes)
  if-off None = refl
  if-off (Some o) = libraries-off o

  then-off : (o : Option ℕ)
      → (o >>= λ p. (read_past_front strict (libraries_at strict format addressing) p).value bytes)
      ≡ option_map libraries_of
      (o >>= λ p.
      (read_past_front strict (numbered_libraries_at strict format addressing) p).value bytes)
  then-off None = refl
  then-off (Some p) = if-off (first_record_offset strict (Some p))

  -- import data is what is numbered, without the numbers
  pub unnumbered : (rva : ℕ) → (import_data strict format addressing rva).value bytes
      ≡ option_map libraries_of ((numbered_data strict format addressing rva).value bytes)
  unfolding import_data numbered_data
  unnumbered rva = then-off (in_its_place strict 0 (addressing.offset rva))

  if-cause : (p : Option ℕ) (e : ErrorOf)
      → (read_if (libraries_at strict format addressing) p).IsCause bytes e
      → (read_if (numbered_libraries_at strict format addressing) p).IsCause bytes e
  unfolding numbered_libraries_at
  if-cause None e h = h
  if-cause (Some o) e h = h

  -- what is numbered is refused as import data is
  pub unnumbered-cause : (rva : ℕ) (e : ErrorOf)
      → (import_data strict format addressing rva).IsCause bytes e
      → (numbered_data strict format addressing rva).IsCause bytes e
  unfolding import_data numbered_data
  unnumbered-cause rva e h = by (in_its_place strict 0 (addressing.offset rva)) h
    where
      by : (o : Option ℕ)
          → FirstFault o ((offset_at addressing.offset rva).IsCause bytes)
          (λ p. (read_past_front strict (libraries_at strict format addressing) p).IsCause bytes) e
          → FirstFault o ((offset_at addressing.offset rva).IsCause bytes)
          (λ p. (read_past_front strict (numbered_libraries_at strict format addressing) p).IsCause bytes) e
      by None h = h
      by (Some p) h = if-cause (first_record_offset strict (Some p)) e h
