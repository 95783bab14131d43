-- Where the imports of a file begin, and a walk from there on.
use Rattle.std.proofs.Common.{subst, ◌≡◌, ℕ, List, [], inl, inr, Option, None, Some, Result, Ok, Err, true, ap, refl, ◌∙◌, IfErr, IfSome}
use Rattle.goblin_base.specs.{declared.error.ErrorOf.ErrorOf, Answers.IsMemory, Tables.Format}
use Rattle.goblin_base.specs.Reading.{Reading, Reads}
use Rattle.readings.specs.Reads.{given}
use Rattle.goblin_pe_sect.specs.declared.data_directories.DataDirectory.{DataDirectory}
use Rattle.goblin_pe_sect.specs.Addresses.{MapOfAddresses, reads_strictly}
use Rattle.goblin_pe_import.specs.Steps.{IsOut}
use Rattle.goblin_pe_import.specs.{ImportEntries.EntryValue, added.ImportCursors.first_import}
use Rattle.goblin_pe_import.specs.Steps.{GivesWithin}
use Rattle.goblin_pe_import.specs.declared.added.imports.ImportCursor.{ImportCursor}
use Rattle.goblin_pe_import.specs.declared.added.imports.Imports.{Imports}
use Rattle.goblin_pe_import.specs.declared.added.imports.WalkedImport.{WalkedImport}
use Rattle.goblin_pe_import.specs.ImportLookup.{entries_32, entries_64}
use Rattle.goblin_pe_import.specs.Passed.{Count}
use Rattle.goblin_pe_import.specs.added.ImportWalks.{AreImportsOver, HasName, cursor_of, cursor_passes, walk_passes, imports_bytes, imports_map, no_imports, walked_value, IsWalkFault}
use Rattle.goblin_pe_import.specs.added.StepsAhead.{GivesImportWithin, cursor_ahead, imports_ahead}
use Rattle.goblin_pe.specs.added.Layouts.{FileImports, file_ahead, file_cursor_ahead, file_cursor_passes, file_passes, GivesFileWithin, GivesFileImport, IsImportWalkAt, file_cursor, file_cursor_left, import_begin, IsFileImportsCause, file_imports_left}
use Rattle.goblin_pe.specs.declared.added.file_imports.FileImports.TheVariants.{Narrow, Wide}
use Rattle.goblin_pe.specs.Whole.{TablePlaces, directory_at}
use Rattle.goblin_pe_import.proofs.added.ImportCursors.{cursor_left_of}
use Rattle.goblin_pe_import.proofs.added.ImportSteps.{ended-left}

-- ---- where the imports begin

module _ (m : MapOfAddresses) (places : TablePlaces) (bytes : List ℕ) (d : DataDirectory)
    (asked : m.opts.parse_imports ≡ true) (there : (directory_at places 1) ≡ Some d) where
  abbrev first : Reading ImportCursor
  first = first_import (reads_strictly m) m.addressing d.virtual_address

  pub begin-value : (import_begin m.opts m.addressing places).value bytes ≡ first.value bytes
  unfolding import_begin
  begin-value = rw (asked, there) refl

  pub begin-cause : (e : ErrorOf) → first.IsCause bytes e
      → (import_begin m.opts m.addressing places).IsCause bytes e
  unfolding import_begin
  begin-cause e cause = rw (asked, there) cause

  pub begin-reads : (r : Result ImportCursor ErrorOf) → Reads (λ c. c) r first bytes
      → Reads (λ c. c) r (import_begin m.opts m.addressing places) bytes
  begin-reads (Ok c) h = begin-value ∙ h
  begin-reads (Err e) h = (begin-value ∙ h.0, begin-cause e h.1)

-- ---- a call of a walk over them

-- what is known of a walk is known of it after a call
kept : {Own : Type 0} (s t : Imports ℕ) → AreImportsOver (imports_bytes s) (imports_map s) t
    → (HasName s → HasName t) → (m : MapOfAddresses) (bytes : List ℕ)
    → Own × AreImportsOver bytes m s × HasName s → Own × AreImportsOver bytes m t × HasName t
kept s t over named m bytes walk =
    (walk.0, (over.0 ∙ walk.1.0, over.1 ∙ walk.1.1), named walk.2)

-- an error is never Memory, and comes only in strict mode
faults : (s : Imports ℕ) (r : Option (Result WalkedImport ErrorOf))
    → IfSome r (λ r. IfErr r (IsWalkFault s.walk))
    → IfSome r (λ r. IfErr r (λ e. ¬ IsMemory e))
    × IfSome r (λ r. IfErr r (λ e. reads_strictly (imports_map s) ≡ true))
faults s None fault = (tt, tt)
faults s (Some (Ok x)) fault = (tt, tt)
faults s (Some (Err e)) fault = (fault.1, fault.0)

-- a call on a walk over entries of one width is one on the walk over a file's imports
within : (wrap : Imports ℕ → FileImports) (s t : Imports ℕ)
    (r : Option (Result WalkedImport ErrorOf))
    → GivesWithin walked_value (λ s. file_imports_left (wrap s)) (λ s. IsFileImportsCause (wrap s)) s r t
    → GivesWithin walked_value file_imports_left IsFileImportsCause (wrap s) r (wrap t)
within wrap s t None given = given
within wrap s t (Some (Ok x)) given = given
within wrap s t (Some (Err e)) given = given

pub narrow_within : (s t : Imports ℕ) (r : Option (Result WalkedImport ErrorOf)) (old new : Option ℕ)
    → GivesImportWithin entries_32 s old r t new → GivesFileWithin (Narrow s) old r (Narrow t) new
narrow_within s t r old new given = record {
  steps = within Narrow s t r given.steps;
  walk = λ m magic bytes. kept s t given.over given.named m bytes;
  fault = (faults s r given.fault).0;
  over = given.over;
  passed = given.passed;
  spent = given.spent;
  looked = given.looked;
  ended = given.ended;
  fewer = given.fewer;
  strictly = (faults s r given.fault).1;
}

pub wide_within : (s t : Imports ℕ) (r : Option (Result WalkedImport ErrorOf)) (old new : Option ℕ)
    → GivesImportWithin entries_64 s old r t new → GivesFileWithin (Wide s) old r (Wide t) new
wide_within s t r old new given = record {
  steps = within Wide s t r given.steps;
  walk = λ m magic bytes. kept s t given.over given.named m bytes;
  fault = (faults s r given.fault).0;
  over = given.over;
  passed = given.passed;
  spent = given.spent;
  looked = given.looked;
  ended = given.ended;
  fewer = given.fewer;
  strictly = (faults s r given.fault).1;
}

file-ended : (t : FileImports) → file_cursor t ≡ no_imports → file_imports_left t ≡ []
file-ended (Narrow t) ended = ended-left entries_32 t.walk ended
file-ended (Wide t) ended = ended-left entries_64 t.walk ended

-- without a limit a call gives the next import, or is at the end
pub file_given : (s t : FileImports) (r : Option (Result WalkedImport ErrorOf)) (new : Option ℕ)
    → GivesFileWithin s None r t new → GivesFileImport s r t
file_given s t None new given =
    elim given.ended [
      | inl ended ↦
          let none = file-ended t ended in
          ((given.steps.0 ∙ none, none), given.walk, tt, ended, given.over.0, given.over.1, given.passed)
      | inr out ↦ absurd (subst IsOut given.spent out)
    ]
file_given s t (Some (Ok x)) new given =
    (given.steps, given.walk, given.fault, tt, given.over.0, given.over.1, given.passed)
file_given s t (Some (Err e)) new given =
    (given.steps, given.walk, given.fault, given.ended, given.over.0, given.over.1, given.passed)

-- ---- a walk at a cursor

module _ (m : MapOfAddresses) (magic : ℕ) (bytes : List ℕ) (c : ImportCursor) where
  -- what is still to come follows from where it is
  pub walk-left : (imports : FileImports) → IsImportWalkAt m magic bytes c imports
      → file_imports_left imports ≡ file_cursor_left m magic bytes c
  walk-left (Narrow imports) h =
      rw h.0.0 (cursor_left_of m entries_32 bytes c imports (record { over = h.0.1; at = h.1; named = h.0.2 }))
  walk-left (Wide imports) h =
      rw h.0.0 (cursor_left_of m entries_64 bytes c imports (record { over = h.0.1; at = h.1; named = h.0.2 }))

  -- so does what is to be passed over
  passes-at : (format : Format EntryValue) (imports : Imports ℕ) → AreImportsOver bytes m imports
      → cursor_of imports ≡ c → (k : Count) → walk_passes format imports.walk k ≡ cursor_passes m format bytes c k
  passes-at format imports over at k =
      ap (λ (m : MapOfAddresses). cursor_passes m format (imports_bytes imports) (cursor_of imports) k) over.1
      ∙ ap (λ (b : List ℕ). cursor_passes m format b (cursor_of imports) k) over.0
      ∙ ap (λ (at : ImportCursor). cursor_passes m format bytes at k) at

  -- so do the steps that are ahead
  ahead-at : (format : Format EntryValue) (imports : Imports ℕ) → AreImportsOver bytes m imports
      → cursor_of imports ≡ c → imports_ahead format imports ≡ cursor_ahead m format bytes c
  ahead-at format imports over at =
      ap (λ (m : MapOfAddresses). cursor_ahead m format (imports_bytes imports) (cursor_of imports)) over.1
      ∙ ap (λ (b : List ℕ). cursor_ahead m format b (cursor_of imports)) over.0
      ∙ ap (cursor_ahead m format bytes) at

  pub walk-passes : (imports : FileImports) → IsImportWalkAt m magic bytes c imports → (k : Count)
      → file_passes imports k ≡ file_cursor_passes m magic bytes c k
  walk-passes (Narrow imports) h k = rw h.0.0 (passes-at entries_32 imports h.0.1 h.1 k)
  walk-passes (Wide imports) h k = rw h.0.0 (passes-at entries_64 imports h.0.1 h.1 k)

  pub walk-ahead : (imports : FileImports) → IsImportWalkAt m magic bytes c imports
      → file_ahead imports ≡ file_cursor_ahead m magic bytes c
  walk-ahead (Narrow imports) h = rw h.0.0 (ahead-at entries_32 imports h.0.1 h.1)
  walk-ahead (Wide imports) h = rw h.0.0 (ahead-at entries_64 imports h.0.1 h.1)
