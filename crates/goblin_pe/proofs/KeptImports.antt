-- Of the import data of a file a list of imports can be made, and what is kept of each library's imports is what is kept of the list.
use Rattle.std.proofs.Common.{◌≡◌, ◌∙◌, ◌≤◌, ◌++◌, ◌∷◌, ℕ, zero, suc, List, [], Bool, true, false, IsSome, None, Option, Some, ap, append-nil, arith, length, map, refl, sym, take_all, get_or, slice_get, take, unwrap_or, take-suc, flat_map, ◌<◌, ◌^◌}
use Rattle.std.proofs.{lemmas.List.map-append, lemmas.List.Concat.flat_map-append}
use Rattle.std.proofs.lemmas.Option.{get_or_from_slice_get}
use Rattle.goblin_base.specs.{Tables.each_below, Bytes.IsBytes}
use Rattle.goblin_base.proofs.{Below.join-parts, Steps.same_value, Steps.step}
use Rattle.goblin_pe_sect.specs.{declared.options.ParseOptions.ParseOptions, Options.is_strict}
use Rattle.goblin_pe_sect.specs.Addresses.{Addressing}
use Rattle.goblin_pe_import.specs.{ImportRecords.ImportedLibrary, ImportReadings.import_data}
use Rattle.goblin_pe_import.specs.Imports.{ImportValue, imports_of, kept_imports, library_imports}
use Rattle.goblin_pe_import.proofs.{Imports.imported_at, ListedImports.imports_of-there}
use Rattle.goblin_pe.specs.Whole.{Part, Absent, Refused, TablePlaces, entry_format, listed_imports_part, part_map, part_of, directory_at, import_data_part}
use Rattle.goblin_pe.specs.declared.whole.Part.TheVariants as part
use Rattle.goblin_pe.proofs.Parts.{read_from}

-- the imports of import data that a list can be made from
unfoldable pub listed_imports : ℕ → Part (List ImportedLibrary) → Part (List ImportValue)
listed_imports magic libraries =
    part_map (λ l. unwrap_or (imports_of (entry_format magic).width l) []) libraries

-- a list of imports can be made from import data
abbrev pub HasList : ParseOptions → TablePlaces → Part (List ImportedLibrary) → Type 0
HasList opts places libraries =
    listed_imports_part opts places libraries ≡ Some (listed_imports places.magic libraries)

there-is : {A : Type 0} (o : Option (List A)) → IsSome o → o ≡ Some (unwrap_or o [])
there-is None there = absurd cc
there-is (Some xs) there = refl

read-there : (strict : Bool) (table : Option (List ImportValue))
    → part_of strict table ≡ Some (part.Read (unwrap_or table [])) → IsSome table
read-there strict (Some xs) h = refl
read-there true None h = absurd cc
read-there false None h = absurd cc

libraries-there : (opts : ParseOptions) (places : TablePlaces) (libraries : List ImportedLibrary)
    → HasList opts places (part.Read libraries)
    → IsSome (imports_of (entry_format places.magic).width libraries)
unfolding listed_imports_part listed_imports
libraries-there opts places libraries h =
    read-there (is_strict opts.parse_mode) (imports_of (entry_format places.magic).width libraries) h

module _ {X : Type 0} (import_of : ImportValue → X) where
  module _ (size : ℕ) (libraries : List ImportedLibrary) where
    -- those of a library that is there
    library-kept : (library : ImportedLibrary) (xs : List ImportValue)
        → library_imports size library ≡ Some xs
        → kept_imports import_of size library ≡ map import_of xs
    library-kept library xs is =
        ap (λ (made : Option (List ImportValue)). map import_of (unwrap_or made [])) is

    first-kept : (n : ℕ) (xs : List ImportValue) → n ≤ length libraries
        → each_below (imported_at size libraries) n ≡ Some xs
        → flat_map (kept_imports import_of size) (take n libraries) ≡ map import_of xs
    first-kept zero xs within e = ap (map import_of) (same_value [] xs e)
    first-kept (suc n) xs within e =
        let parts = join-parts (each_below (imported_at size libraries) n) (imported_at size libraries n) xs e in
        let before = first-kept n parts.0 (omega (arith, within)) parts.2 in
        let s = step (slice_get libraries n) (library_imports size) parts.1 parts.3 in
        let here : get_or libraries n s.value ≡ s.value = get_or_from_slice_get libraries n s.value s.value s.is in
        let front : take (suc n) libraries ≡ take n libraries ++ s.value ∷ [] =
        take-suc libraries n s.value (omega (arith, within)) ∙ ap (λ (l : ImportedLibrary). take n libraries ++ l ∷ []) here in
        let kept = kept_imports import_of size in
        ap (flat_map kept) front
        ∙ flat_map-append kept (take n libraries) (s.value ∷ [])
        ∙ ap (λ (ys : List X). flat_map kept (take n libraries) ++ ys)
        (append-nil (kept s.value) ∙ library-kept s.value parts.1 s.then)
        ∙ ap (λ (ys : List X). ys ++ map import_of parts.1) before
        ∙ sym (map-append import_of parts.0 parts.1) ∙ ap (map import_of) (sym parts.4)

    all-kept : IsSome (imports_of size libraries)
        → flat_map (kept_imports import_of size) libraries
        ≡ map import_of (unwrap_or (imports_of size libraries) [])
    unfolding imports_of
    all-kept there =
        ap (flat_map (kept_imports import_of size))
        (sym (take_all (length libraries) libraries (omega arith)))
        ∙ first-kept (length libraries) (unwrap_or (imports_of size libraries) []) (omega arith)
        (there-is (imports_of size libraries) there)

  -- those of a file's import data
  pub part-kept : (opts : ParseOptions) (places : TablePlaces) (p : Part (List ImportedLibrary))
      → HasList opts places p
      → part_map (flat_map (kept_imports import_of (entry_format places.magic).width)) p
      ≡ part_map (map import_of) (listed_imports places.magic p)
  unfolding listed_imports
  part-kept opts places Absent h = refl
  part-kept opts places (part.Read libraries) h =
      ap (λ (xs : List X). part.Read xs)
      (all-kept (entry_format places.magic).width libraries (libraries-there opts places libraries h))
  part-kept opts places Refused h = refl

-- ---- a list can be made

part-there : {A : Type 0} (strict : Bool) (table : Option (List A)) → IsSome table → part_of strict table ≡ Some (part.Read (unwrap_or table []))
part-there strict None there = absurd cc
part-there strict (Some xs) there = refl

module _ (opts : ParseOptions) (file : List ℕ) (places : TablePlaces) (short : length file < 2 ^ 63)
    (bytes : IsBytes file) (addressing : Addressing) where
  -- of import data that was read a list of imports can be made
  pub data-listed : (p : Part (List ImportedLibrary))
      → (import_data_part opts addressing places).value file ≡ Some p → HasList opts places p
  unfolding import_data_part listed_imports_part listed_imports
  data-listed Absent e = refl
  data-listed (part.Read libraries) e =
      let strict = is_strict opts.parse_mode in
      let format = entry_format places.magic in
      let from = read_from opts.parse_imports strict
      (λ d. import_data strict format addressing d.virtual_address) (directory_at places 1) file libraries e in
      part-there strict (imports_of format.width libraries)
      (imports_of-there strict format addressing file short bytes from.at.virtual_address libraries from.read)
  data-listed Refused e = refl
