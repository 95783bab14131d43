-- The error that ends a walk over imports.
use Rattle.std.proofs.Common.{ℕ, Bool, List, Option, Some, None, Err, Ok, Result, ◌∙◌, inl, inr, subst, IfErr, IfSome, IsSomeAnd}
use Rattle.goblin_base.specs.{declared.error.ErrorOf.ErrorOf, Tables.Format}
use Rattle.goblin_base.specs.Answers.{IsMemory, all_of}
use Rattle.goblin_base.proofs.Readings.{first_no_memory}
use Rattle.goblin_pe_import.specs.added.ImportWalks.{Imports, Walk, WalkedImport, GivesImport, IsImportsCause, imports_left, IsLaterCause, IsRecordsCause, IsWalkCause, IsWalkFault, pending_table, walk_left, walked_value}
use Rattle.goblin_pe_sect.specs.Addresses.{map_of, reads_strictly, Addressing}
use Rattle.goblin_pe_import.specs.{ImportEntries.EntryValue, ImportReadings.libraries_at}
use Rattle.goblin_pe_import.specs.{LookupReadings.lookup_table, added.StepsAhead.GivesImportWithin}
use Rattle.goblin_pe_import.specs.Steps.{GivesWithin, IsOut}
use Rattle.goblin_pe_import.specs.KeptEntries.{IsEntriesCause, entries_from}
use Rattle.goblin_pe_import.proofs.added.ImportSteps.{ended-left}

module _ (strict : Bool) (format : Format EntryValue) (addressing : Addressing)
    (bytes : List ℕ) (e : ErrorOf) where
  entries-not_memory : (place : Option ℕ) → IsEntriesCause strict format addressing bytes place e
      → ¬ IsMemory e
  entries-not_memory None fault = absurd fault
  entries-not_memory (Some place) fault =
      (lookup_table strict format addressing place).not_memory bytes e fault

  next-not_memory : (next : Option ℕ)
      → IsSomeAnd next (λ p. IsRecordsCause strict format addressing bytes p e) → ¬ IsMemory e
  next-not_memory None fault = absurd fault
  next-not_memory (Some p) fault = (libraries_at strict format addressing p).not_memory bytes e fault

walk-not_memory : (format : Format EntryValue) (w : Walk) (e : ErrorOf) → IsWalkCause format w e
    → ¬ IsMemory e
walk-not_memory format w e fault =
    let m = map_of w.finder in
    let strict = reads_strictly m in
    let bytes = w.bytes.now in
    let table = pending_table strict format m.addressing w.at.tested w.at.pending in
    first_no_memory
    (all_of (entries_from strict format m.addressing bytes w.at.table_offset w.at.place))
    (IsEntriesCause strict format m.addressing bytes w.at.place)
    (λ _. IsLaterCause strict format m.addressing bytes w.at.tested w.at.pending w.at.next_record) e
    (entries-not_memory strict format m.addressing bytes e w.at.place)
    (λ _. first_no_memory (table.value bytes) (table.IsCause bytes)
    (λ _ e. IsSomeAnd w.at.next_record (λ p. IsRecordsCause strict format m.addressing bytes p e)) e
    (table.not_memory bytes e)
    (λ _. next-not_memory strict format m.addressing bytes e w.at.next_record))
    fault.1

-- an error that a call gives comes only in strict mode, and is not Memory
pub given-fault : (format : Format EntryValue) (s t : Walk) (result : Option (Result WalkedImport ErrorOf))
    → GivesWithin walked_value (walk_left format) (IsWalkCause format) s result t
    → IfSome result (λ r. IfErr r (IsWalkFault s))
given-fault format s t None given = tt
given-fault format s t (Some (Ok import)) given = tt
given-fault format s t (Some (Err e)) given = (given.2.0, walk-not_memory format s e given.2)

-- what a call gives of a walk, it gives of the iterator
pub within-given : {T : Type 0} (format : Format EntryValue) (s t : Imports T)
    (result : Option (Result WalkedImport ErrorOf))
    → GivesWithin walked_value (walk_left format) (IsWalkCause format) s.walk result t.walk
    → GivesWithin walked_value (imports_left format) (IsImportsCause format) s result t
within-given format s t None given = given
within-given format s t (Some (Ok import)) given = given
within-given format s t (Some (Err e)) given = given

-- without a limit it gives the next import, or is at the end
pub import-given : {T : Type 0} (format : Format EntryValue) (s t : Imports T)
    (result : Option (Result WalkedImport ErrorOf)) (new : Option ℕ)
    → GivesImportWithin format s None result t new → GivesImport format s result t
import-given format s t None new given =
    elim given.ended [
      | inl ended ↦
          let none = ended-left format t.walk ended in
          ((given.steps.0 ∙ none, none), given.named, tt, given.over, ended, given.passed)
      | inr out ↦ absurd (subst IsOut given.spent out)
    ]
import-given format s t (Some (Ok import)) new given =
    (given.steps, given.named, given.fault, given.over, tt, given.passed)
import-given format s t (Some (Err e)) new given =
    (given.steps, given.named, given.fault, given.over, given.ended, given.passed)
