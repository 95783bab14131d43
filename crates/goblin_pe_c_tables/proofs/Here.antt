-- Imports that a walk gives one by one.
use Rattle.std.proofs.Common.{◌≡◌, ◌∙◌, List, [], ◌∷◌, ◌++◌, Some, Ok, refl, suc, arith}
use Rattle.std.proofs.lemmas.List.{length-append}
use Rattle.goblin_base.specs.Tables.{Format}
use Rattle.goblin_pe_import.specs.{ImportEntries.EntryValue, Imports.NumberedImport}
use Rattle.goblin_pe_import.specs.added.StepsAhead.{imports_ahead}
use Rattle.goblin_pe_import.specs.declared.added.imports.Imports.{Imports}
use Rattle.goblin_pe_import.specs.declared.added.imports.WalkedImport.{WalkedImport}
use Rattle.goblin_pe_import.specs.Passed.{Count}
use Rattle.goblin_pe_import.specs.added.ImportWalks.{GivesImport, IsImportsCause, imports_left, passed_of, walk_passes, walked_value}
use Rattle.goblin_pe_c_tables.specs.Imports.{GivesHere}
use Rattle.readings.proofs.Walked.{AtWalk, walk-more}

module _ {T : Type 0} (format : Format EntryValue) where
  -- a walk that has given nothing, and one that gives one more
  pub here-start : (s : Imports T) (Holds : List NumberedImport → Type 0) → Holds [] → GivesHere format s s Holds
  here-start s Holds none = record {
    values = [];
    held = none;
    yielded = refl;
    cause = λ e fault. fault;
    ahead = omega arith;
    passes = λ k. refl;
    passed = refl;
    kept = λ named. named;
    over = (refl, refl);
  }

  pub here-more : (s now next : Imports T) (Holds More : List NumberedImport → Type 0) → GivesHere format s now Holds → (x : WalkedImport)
      → GivesImport format now (Some (Ok x)) next → imports_ahead format now ≡ suc (imports_ahead format next)
      → ((k : Count) → walk_passes format now.walk k ≡ walk_passes format next.walk k) → passed_of next ≡ passed_of now
      → ((values : List NumberedImport) → Holds values → More (values ++ walked_value x ∷ [])) → GivesHere format s next More
  here-more s now next Holds More h x gives step passes passed more =
      let so_far : AtWalk (imports_left format) (IsImportsCause format) s now h.values = record { yielded = h.yielded; cause = h.cause } in
      let walk = walk-more (imports_left format) (IsImportsCause format) s now h.values so_far walked_value next x gives.0 in
      record {
        values = h.values ++ walked_value x ∷ [];
        held = more h.values h.held;
        yielded = walk.yielded;
        cause = walk.cause;
        ahead =
            let before = h.ahead in
            omega (arith, before, step, length-append h.values (walked_value x ∷ []));
        passes = λ k. h.passes k ∙ passes k;
        passed = passed ∙ h.passed;
        kept = λ named. gives.1 (h.kept named);
        over = (gives.3.0 ∙ h.over.0, gives.3.1 ∙ h.over.1);
      }
