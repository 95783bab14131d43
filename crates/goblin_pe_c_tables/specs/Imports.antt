-- The records of imports, as definitions.
use Rattle.std.specs.Prelude.{◌≡◌, ℕ, Bool, List, [], ◌∷◌, ◌++◌, Option, Some, if◌then◌else◌}
use Rattle.std.specs.Prelude.{◌+◌, ◌==◌, false, length, map, not}
use Rattle.goblin_base.specs.{declared.error.ErrorOf.ErrorOf, Tables.Format}
use Rattle.goblin_pe_import.specs.{ImportEntries.EntryValue, added.StepsAhead.imports_ahead}
use Rattle.goblin_pe_import.specs.{declared.added.imports.Imports.Imports, Imports.NumberedImport}
use Rattle.goblin_pe_import.specs.added.ImportWalks.{AreImportsOver, HasName, IsImportsCause}
use Rattle.goblin_pe_import.specs.Passed.{Count}
use Rattle.goblin_pe_c_headers.specs.Names.{cut_name}
use Rattle.goblin_pe_import.specs.added.ImportWalks.{imports_bytes, imports_left, imports_map}
use Rattle.goblin_pe_import.specs.added.ImportWalks.{passed_of, walk_passes}
pub use Rattle.goblin_pe_c_tables.specs.declared.import.PeImport.{PeImport}

-- a record of an import, its slices as lists
pub record ImportModel : Type 0 where
  pub name : List ℕ
  pub dll : List ℕ
  pub iat_rva : ℕ
  pub hint_name_rva : ℕ
  pub library_index : ℕ
  pub thunk_index : ℕ
  pub hint_or_ordinal : ℕ
  pub is_by_name : Bool
  pub has_name : Bool
  pub is_name_cut : Bool
  pub is_library_cut : Bool
  pub reserved : List ℕ

-- an import with whole names, which is by name if its name is in the file; one by ordinal has none
abbrev pub whole_import : NumberedImport → ImportModel
whole_import x =
    let name : List ℕ = if x.import.is_borrowed then x.import.name else [] in
    record {
      name = name;
      dll = x.import.dll;
      iat_rva = x.import.offset;
      hint_name_rva = x.import.rva;
      library_index = x.library;
      thunk_index = x.import.slot;
      hint_or_ordinal = x.import.ordinal;
      is_by_name = x.import.is_borrowed;
      has_name = not (length name == 0);
      is_name_cut = false;
      is_library_cut = false;
      reserved = 0 ∷ 0 ∷ [];
    }

-- the names of a record, cut at a limit
abbrev pub cut_import : Option ℕ → ImportModel → ImportModel
cut_import longest m =
    let name = cut_name longest m.name in
    let library = cut_name longest m.dll in
    record m {
      name = name.0;
      dll = library.0;
      is_name_cut = name.1;
      is_library_cut = library.1;
    }

-- the record of an import
abbrev pub import_for_c : Option ℕ → NumberedImport → ImportModel
import_for_c longest x = cut_import longest (whole_import x)

abbrev pub import_model : PeImport → ImportModel
import_model x = record {
  name = x.name.now;
  dll = x.dll.now;
  iat_rva = x.iat_rva;
  hint_name_rva = x.hint_name_rva;
  library_index = x.library_index;
  thunk_index = x.thunk_index;
  hint_or_ordinal = x.hint_or_ordinal;
  is_by_name = x.is_by_name;
  has_name = x.has_name;
  is_name_cut = x.is_name_cut;
  is_library_cut = x.is_library_cut;
  reserved = x.reserved;
}

-- A walk has given some imports, this holds of them, and it goes on after them.
pub record GivesHere {T : Type 0} (format : Format EntryValue) (s t : Imports T)
    (Holds : List NumberedImport → Type 0) : Type 0 where
  pub values : List NumberedImport
  pub held : Holds values
  pub yielded : imports_left format s ≡ map (λ x. Some x) values ++ imports_left format t
  pub cause : (e : ErrorOf) → IsImportsCause format t e → IsImportsCause format s e
  pub ahead : imports_ahead format s ≡ length values + imports_ahead format t
  pub passes : (k : Count) → walk_passes format s.walk k ≡ walk_passes format t.walk k
  pub passed : passed_of t ≡ passed_of s
  pub kept : HasName s → HasName t
  pub over : AreImportsOver (imports_bytes s) (imports_map s) t
