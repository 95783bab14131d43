-- The imports of a file as a part of it: permissive mode refuses no import data, and the part has what a walk over them collects.
use Rattle.std.proofs.Common.{◌≡◌, ℕ, Bool, true, false, List, Option, Some, None, refl, sym, ap, ◌∙◌, length, map, ◌<◌, ◌^◌, option_map, map-id, flat_map, ◌++◌, ◌∷◌, [], unwrap_or}
use Rattle.std.proofs.{lemmas.List.map-append, lemmas.Simd.map-map}
use Rattle.goblin_base.specs.{declared.error.ErrorOf.ErrorOf, Bytes.IsBytes, Reading.IsRefused}
use Rattle.goblin_base.proofs.Steps.{same_value, unmapped, mapped as mapped_of}
use Rattle.readings.specs.Reads.{given, pick}
use Rattle.goblin_pe_sect.specs.declared.data_directories.DataDirectory.{DataDirectory}
use Rattle.goblin_pe_sect.specs.{declared.options.ParseOptions.ParseOptions, Options.is_strict}
use Rattle.goblin_pe_sect.specs.Addresses.{Addressing}
use Rattle.goblin_pe_import.specs.ImportReadings.{import_data, numbered_data}
use Rattle.goblin_pe_import.specs.ImportRecords.{ImportedLibrary, NumberedLibrary}
use Rattle.goblin_pe_import.specs.Imports.{ImportValue, NumberedImport, at_library, kept_imports, library_imports, numbered_imports}
use Rattle.goblin_pe_import.proofs.LibraryIndexes.{unnumbered, unnumbered-cause}
use Rattle.goblin_pe.specs.Whole.{Part, Absent, Refused, TablePlaces, both_lists, directory_at, entry_format, import_data_part, imports_in, listed_imports_part, numbered_data_part, part_at, part_map, part_of, without_indexes, without_numbers}
use Rattle.goblin_pe.specs.declared.whole.Part.TheVariants as part
use Rattle.goblin_pe.proofs.KeptImports.{listed_imports, part-kept, data-listed}
use Rattle.goblin_pe.proofs.Parts.{part_of-mapped}

-- ---- permissive mode refuses no import data

off-numbers : (size : ℕ) (xs : List NumberedLibrary)
    → map (λ x. x.import) (flat_map (numbered_imports size) xs)
    ≡ flat_map (kept_imports (λ x. x) size) (map (λ x. x.library) xs)
off-numbers size [] = refl
off-numbers size (x ∷ xs) =
    let first = numbered_imports size x in
    map-append (λ x. x.import) first (flat_map (numbered_imports size) xs)
    ∙ ap
    (λ (ys : List ImportValue). ys ++ map (λ x. x.import) (flat_map (numbered_imports size) xs))
    (map-map (λ (i : NumberedImport). i.import) (at_library x.index) (unwrap_or (library_imports size x.library) []))
    ∙ ap (λ (ys : List ImportValue). kept_imports (λ x. x) size x.library ++ ys) (off-numbers size xs)

off-part : (magic : ℕ) (p : Part (List NumberedLibrary))
    → without_numbers (imports_in magic p)
    ≡ part_map (flat_map (kept_imports (λ x. x) (entry_format magic).width)) (without_indexes p)
off-part magic Absent = refl
off-part magic (part.Read xs) =
    ap (λ (ys : List ImportValue). part.Read ys) (off-numbers (entry_format magic).width xs)
off-part magic Refused = refl

same-part : {A : Type 0} (p : Part (List A)) → part_map (map (λ x. x)) p ≡ p
same-part Absent = refl
same-part {A} (part.Read xs) = ap (λ (ys : List A). part.Read ys) (map-id xs)
same-part Refused = refl

module _ (opts : ParseOptions) (addressing : Addressing) (places : TablePlaces) (bytes : List ℕ) where
  abbrev in_mode : Bool
  in_mode = is_strict opts.parse_mode

  -- the libraries are those with numbers
  data-off : (import_data_part opts addressing places).value bytes
      ≡ option_map without_indexes ((numbered_data_part opts addressing places).value bytes)
  unfolding import_data_part numbered_data_part
  data-off = by opts.parse_imports (directory_at places 1)
    where
      by : (asked : Bool) (directory : Option DataDirectory)
          → (pick asked (part_at in_mode (λ d. import_data in_mode (entry_format places.magic) addressing d.virtual_address) directory) (given Absent)).value bytes
          ≡ option_map without_indexes
          ((pick asked (part_at in_mode (λ d. numbered_data in_mode (entry_format places.magic) addressing d.virtual_address) directory) (given Absent)).value bytes)
      by false directory = refl
      by true None = refl
      by true (Some d) =
          ap (part_of in_mode) (unnumbered in_mode (entry_format places.magic) addressing bytes d.virtual_address)
          ∙ part_of-mapped _ in_mode ((numbered_data in_mode (entry_format places.magic) addressing d.virtual_address).value bytes)

  -- what is numbered is refused where import data is, for the same cause
  pub data-refused : (e : ErrorOf) → IsRefused (import_data_part opts addressing places) bytes e
      → IsRefused (numbered_data_part opts addressing places) bytes e
  unfolding import_data_part numbered_data_part
  data-refused e h = (unmapped _ _ (sym data-off ∙ h.0), by opts.parse_imports (directory_at places 1) h.1)
    where
      by : (asked : Bool) (directory : Option DataDirectory)
          → (pick asked (part_at in_mode (λ d. import_data in_mode (entry_format places.magic) addressing d.virtual_address) directory) (given Absent)).IsCause bytes e
          → (pick asked (part_at in_mode (λ d. numbered_data in_mode (entry_format places.magic) addressing d.virtual_address) directory) (given Absent)).IsCause bytes e
      by false directory h = h
      by true None h = h
      by true (Some d) h = unnumbered-cause in_mode (entry_format places.magic) addressing bytes d.virtual_address e h

module _ (opts : ParseOptions) (addressing : Addressing) (places : TablePlaces) (bytes : List ℕ) (short : length bytes < 2 ^ 63) (fit : IsBytes bytes) where
  -- the lists of what is numbered are the libraries of import data and the list made of these
  pub both_listed : (p : Part (List ImportedLibrary)) (q : Part (List ImportValue))
      → (import_data_part opts addressing places).value bytes ≡ Some p
      → listed_imports_part opts places p ≡ Some q
      → option_map (both_lists places.magic) ((numbered_data_part opts addressing places).value bytes)
      ≡ Some (p, q)
  both_listed p q is made =
      let read = mapped_of ((numbered_data_part opts addressing places).value bytes) without_indexes p
      (sym (data-off opts addressing places bytes) ∙ is) in
      let kept = data-listed opts bytes places short fit addressing p is in
      let list = off-part places.magic read.value
      ∙ ap (part_map (flat_map (kept_imports (λ x. x) (entry_format places.magic).width))) read.made
      ∙ part-kept (λ x. x) opts places p kept
      ∙ same-part (listed_imports places.magic p)
      ∙ same_value _ q (sym kept ∙ made) in
      rw read.is
      (ap (λ (l : Part (List ImportedLibrary)). Some (l, without_numbers (imports_in places.magic read.value))) read.made
      ∙ ap (λ (l : Part (List ImportValue)). Some (p, l)) list)

  -- and there is such a list
  pub never_unlisted : (p : Part (List ImportedLibrary))
      → (import_data_part opts addressing places).value bytes ≡ Some p
      → listed_imports_part opts places p ≡ None → ⊥
  never_unlisted p is none =
      let kept = data-listed opts bytes places short fit addressing p is in
      absurd cc
