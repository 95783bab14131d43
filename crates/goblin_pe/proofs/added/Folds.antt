-- A loop over the imports of a file that gathers something: what it has gathered so far, and what at each way out.
use Rattle.std.proofs.Common.{◌≡◌, ℕ, ◌+◌, ◌-◌, ◌^◌, Bool, cond, List, [], ◌∷◌, ◌++◌, Option, Some, None, Result, Ok, Err, arith, refl, sym, ap, subst, ◌∙◌, count_by, find, min, option_map}
use Rattle.std.specs.Option.{option_or}
use Rattle.std.proofs.{lemmas.List.Folds.find-append, lemmas.List.Sums.sum_by-append}
use Rattle.goblin_base.specs.{declared.error.ErrorOf.ErrorOf, Answers.all_of}
use Rattle.goblin_pe_import.specs.{added.ImportWalks.walked_value, Imports.NumberedImport}
use Rattle.goblin_pe_import.specs.declared.added.imports.WalkedImport.{WalkedImport}
use Rattle.goblin_pe.specs.added.Layouts.{FileImports}
use Rattle.goblin_pe.specs.added.Layouts.{GivesFileImport, IsFileImportsCause, file_imports_left}
use Rattle.readings.specs.{added.Questions.counted, Walks.GivesNext}
use Rattle.readings.proofs.Walked.{AtWalk, walk-all, walk-fault, walk-more}

-- The walk over imports that began at `start` is now at `now`, and this was gathered of the imports so far.
pub record Gathers {B : Type 0} (gather : List NumberedImport → B) (start now : FileImports) (value : B) : Type 0 where
  pub items : List NumberedImport
  pub at : AtWalk file_imports_left IsFileImportsCause start now items
  pub is : value ≡ gather items

module _ {B : Type 0} (gather : List NumberedImport → B) (start now next : FileImports) (value : B) (h : Gathers gather start now value) where
  -- one import more
  pub gathers_more : (r : Result WalkedImport ErrorOf) (x : WalkedImport) (more : B) → GivesFileImport now (Some r) next → r ≡ Ok x → more ≡ gather (h.items ++ walked_value x ∷ []) → Gathers gather start next more
  gathers_more r x more given is value_is = record {
    items = h.items ++ walked_value x ∷ [];
    at = walk-more file_imports_left IsFileImportsCause start now h.items h.at walked_value next x
        (subst (λ (q : Result WalkedImport ErrorOf). GivesNext walked_value file_imports_left IsFileImportsCause now (Some q) next) is given.0);
    is = value_is;
  }

  -- all imports have come
  pub gathers_all : GivesFileImport now None next → option_map gather (all_of (file_imports_left start)) ≡ Some value
  gathers_all given = ap (option_map gather) (walk-all file_imports_left IsFileImportsCause start now h.items h.at walked_value next given.0) ∙ ap (λ (b : B). Some b) (sym h.is)

  -- they end with a refusal
  pub gathers_fault : (r : Result WalkedImport ErrorOf) (e : ErrorOf) → GivesFileImport now (Some r) next → r ≡ Err e → (option_map gather (all_of (file_imports_left start)) ≡ None) × IsFileImportsCause start e
  gathers_fault r e given is =
      let fault = walk-fault file_imports_left IsFileImportsCause start now h.items h.at walked_value next r given.0 e is in
      (ap (option_map gather) fault.0, fault.1)

-- a count that stops at m goes on as the count does
capped-more : (c d m : ℕ) → min (min c m + d) m ≡ min (c + d) m
capped-more c d m = omega arith

one-count : {A : Type 0} (p : A → Bool) (x : A) → count_by p (x ∷ []) ≡ cond (p x) 1 0
one-count p x = omega arith

-- how many of the imports pass a test
pub count_more : (p : NumberedImport → Bool) (start now next : FileImports) (count more : ℕ) (r : Result WalkedImport ErrorOf) (x : WalkedImport)
    → Gathers (counted p) start now count → GivesFileImport now (Some r) next → r ≡ Ok x → more ≡ min (count + cond (p (walked_value x)) 1 0) (2 ^ 64 - 1) → Gathers (counted p) start next more
count_more p start now next count more r x h given is value_is =
    gathers_more (counted p) start now next count h r x more given is
    (value_is ∙ ap (λ (n : ℕ). min (n + cond (p (walked_value x)) 1 0) (2 ^ 64 - 1)) h.is
    ∙ capped-more (count_by p h.items) (cond (p (walked_value x)) 1 0) (2 ^ 64 - 1)
    ∙ ap (λ (n : ℕ). min n (2 ^ 64 - 1)) (ap (λ (n : ℕ). count_by p h.items + n) (sym (one-count p (walked_value x))) ∙ sym (sum_by-append (λ x. cond (p x) 1 0) h.items (walked_value x ∷ []))))

one-found : {A : Type 0} (p : A → Bool) (x : A) → find p (x ∷ []) ≡ cond (p x) (Some x) None
one-found p x = refl

-- the first of the imports that passes a test
pub find_more : (p : NumberedImport → Bool) (start now next : FileImports) (found more : Option NumberedImport) (r : Result WalkedImport ErrorOf) (x : WalkedImport)
    → Gathers (find p) start now found → GivesFileImport now (Some r) next → r ≡ Ok x → more ≡ option_or found (cond (p (walked_value x)) (Some (walked_value x)) None) → Gathers (find p) start next more
find_more p start now next found more r x h given is value_is =
    let one = cond (p (walked_value x)) (Some (walked_value x)) None in
    gathers_more (find p) start now next found h r x more given is
    (value_is ∙ ap (λ (o : Option NumberedImport). option_or o one) h.is ∙ ap (λ (o : Option NumberedImport). option_or (find p h.items) o) (sym (one-found p (walked_value x))) ∙ sym (find-append p h.items (walked_value x ∷ [])))
