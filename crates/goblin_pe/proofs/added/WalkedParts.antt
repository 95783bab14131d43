-- The tables of a file as walks: permissive mode refuses no import data, and a part has what a walk over it
-- collects.
use Rattle.std.proofs.Common.{◌≡◌, ℕ, Bool, true, false, cond, List, Option, Some, None, IsSome, refl, subst, ap, not, ◌&&◌, ◌==◌, option_map, Result, Ok, Err, flat_map, inl, inr, ◌⊎◌}
use Rattle.goblin_base.specs.{declared.error.ErrorOf.ErrorOf, Answers.◌>>=◌, Answers.all_of}
use Rattle.goblin_base.specs.{Reading.IsRefused, Reading.Reading, Tables.Format}
use Rattle.readings.specs.Reads.{given, in_its_place, mapped, pick}
use Rattle.readings.specs.Walks.{IsWalkOf, Walks}
use Rattle.goblin_pe_sect.specs.declared.data_directories.DataDirectory.{DataDirectory}
use Rattle.goblin_pe_sect.specs.declared.options.ParseOptions.{ParseOptions}
use Rattle.goblin_pe_sect.specs.{AddressReadings.offset_at, Options.is_strict, Addresses.Addressing}
use Rattle.goblin_pe_import.specs.ImportEntries.{EntryValue}
use Rattle.goblin_pe_import.specs.ImportReadings.{import_data, kept_library, libraries_at, library_of, numbered_data, read_if, read_past_front}
use Rattle.goblin_pe_import.specs.ImportRecords.{NumberedLibrary, import_slots}
use Rattle.goblin_pe_import.specs.Imports.{NumberedImport, numbered_imports}
use Rattle.goblin_pe_import.proofs.LibraryIndexes.{unnumbered}
use Rattle.goblin_pe_import.proofs.PermissiveReads.{left-there, table-there}
use Rattle.goblin_pe.specs.Whole.{Absent, TablePlaces, directory_at, entry_format, numbered_data_part, import_list, part_at, part_map, part_of}
use Rattle.goblin_pe.specs.declared.whole.Part.TheVariants as part
use Rattle.goblin_pe.specs.added.Layouts.{FileImports, IsFileImportsCause, file_imports_left}

-- what a value is made of is there
pub was-there : {A B : Type 0} (f : A → B) (o : Option A) → IsSome (option_map f o) → IsSome o
was-there f None some = absurd cc
was-there f (Some x) some = refl

placed-there : {A B : Type 0} (d : A) (o : Option A) (f : A → Option B) → ((x : A) → IsSome (f x)) → IsSome (in_its_place false d o >>= f)
placed-there d None f all = all d
placed-there d (Some x) f all = all x

module _ (format : Format EntryValue) (addressing : Addressing) (bytes : List ℕ) where
  libraries-there : (o : ℕ) → IsSome ((libraries_at false format addressing o).value bytes)
  libraries-there o =
      table-there import_slots (λ r. (kept_library false format addressing r).value bytes) bytes o
      (λ r. left-there ((library_of false format addressing r).value bytes))

  past-front-there : (o : ℕ) → IsSome ((read_past_front false (libraries_at false format addressing) o).value bytes)
  past-front-there o = by (not false && o == 0)
    where
      by : (test : Bool)
          → IsSome ((read_if (libraries_at false format addressing) (cond test None (Some o))).value bytes)
      by true = cc
      by false = libraries-there o

  data-there : (strict : Bool) (rva : ℕ) → strict ≡ false → IsSome ((import_data strict format addressing rva).value bytes)
  unfolding import_data
  data-there true rva permissive = absurd cc
  data-there false rva permissive = placed-there 0 ((offset_at addressing.offset rva).value bytes) (λ o. (read_past_front false (libraries_at false format addressing) o).value bytes) past-front-there

  pub numbered-there : (strict : Bool) (rva : ℕ) → strict ≡ false
      → IsSome ((numbered_data strict format addressing rva).value bytes)
  numbered-there strict rva permissive =
      was-there _ _ (subst IsSome (unnumbered strict format addressing bytes rva) (data-there strict rva permissive))

-- ---- the part

part-value : {A B : Type 0} (kept : List A → List B) (strict : Bool) (read : Option (List A)) (all : Option (List B)) → (strict ≡ false → IsSome read) → option_map (λ xs. xs) all ≡ option_map kept read → option_map (λ xs. part.Read xs) all ≡ option_map (part_map kept) (part_of strict read)
part-value kept strict (Some xs) (Some ys) there e = ap (option_map (λ zs. part.Read zs)) e
part-value kept strict (Some xs) None there e = absurd cc
part-value kept true None (Some ys) there e = absurd cc
part-value kept true None None there e = refl
part-value kept false None all there e = let never = there refl in absurd cc

part-refused : {A B : Type 0} (kept : List A → List B) (strict : Bool) (read : Option (List A)) → (strict ≡ false → IsSome read) → option_map kept read ≡ None → option_map (part_map kept) (part_of strict read) ≡ None
part-refused kept strict (Some xs) there e = absurd cc
part-refused kept true None there e = refl
part-refused kept false None there e = let never = there refl in absurd cc

module _ (opts : ParseOptions) (addressing : Addressing) (places : TablePlaces) (d : DataDirectory) (asked : opts.parse_imports ≡ true) (here : (directory_at places 1) ≡ Some d) (bytes : List ℕ) where
  abbrev strict : Bool
  strict = is_strict opts.parse_mode

  abbrev format : Format EntryValue
  format = entry_format places.magic

  abbrev kept : List NumberedLibrary → List NumberedImport
  kept = flat_map (numbered_imports format.width)

  abbrev libraries : Reading (List NumberedLibrary)
  libraries = numbered_data strict format addressing d.virtual_address

  there : strict ≡ false → IsSome (libraries.value bytes)
  there = numbered-there format addressing bytes strict d.virtual_address

  -- a walk that is refused before its first import
  pub list-refused : (result : Result FileImports ErrorOf) (e : ErrorOf) → Walks file_imports_left IsFileImportsCause (λ xs. xs) result (mapped kept libraries) bytes → result ≡ Err e → IsRefused (import_list opts addressing places) bytes e
  unfolding import_list numbered_data_part
  list-refused result e walks is =
      let h = subst (λ (r : Result FileImports ErrorOf). Walks file_imports_left IsFileImportsCause (λ xs. xs) r (mapped kept libraries) bytes) is walks in
      rw (asked, here) (part-refused kept strict (libraries.value bytes) there h.0, h.1)

  -- what a walk collects
  pub list-walked : (result : Result FileImports ErrorOf) (imports : FileImports) → Walks file_imports_left IsFileImportsCause (λ xs. xs) result (mapped kept libraries) bytes → result ≡ Ok imports → IsWalkOf (λ xs. part.Read xs) (import_list opts addressing places) bytes (file_imports_left imports) (IsFileImportsCause imports)
  unfolding import_list numbered_data_part
  list-walked result imports walks is =
      let walk = subst (λ (r : Result FileImports ErrorOf). Walks file_imports_left IsFileImportsCause (λ xs. xs) r (mapped kept libraries) bytes) is walks in
      record {
        value = rw (asked, here) (part-value kept strict (libraries.value bytes) (all_of (file_imports_left imports)) there walk.value);
        cause = λ e fault. rw (asked, here) (walk.cause e fault);
      }

-- ---- the list of imports beside the libraries

-- the part of a table that is not asked for, or not there
pub unasked_mapped : {X A B : Type 0} (view : X → B) (f : A → B) (strict asked : Bool)
    (read : DataDirectory → Reading A) (directory : Option DataDirectory) (bytes : List ℕ)
    → (asked ≡ false) ⊎ (directory ≡ None)
    → option_map (part_map f)
    ((pick asked (part_at strict read directory) (given Absent)).value bytes)
    ≡ Some (part_map view Absent)
unasked_mapped view f strict false read directory bytes is = refl
unasked_mapped view f strict true read directory bytes (inl is) = absurd cc
unasked_mapped view f strict true read directory bytes (inr is) = rw is refl
