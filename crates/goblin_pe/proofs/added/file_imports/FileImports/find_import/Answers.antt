use Rattle.std.proofs.Common.{◌≡◌, Bool, true, false, cond, not, Option, Some, None, ap, refl, ◌∙◌, option_map}
use Rattle.std.specs.Option.{is_some, option_or}
use Rattle.std.proofs.{lemmas.Result.err_from_is_err_and, lemmas.Fn.says_at}
use Rattle.goblin_pe_import.specs.declared.added.imports.WalkedImport.{WalkedImport}
use Rattle.goblin_pe_import.specs.added.ImportWalks.{walked_value}
use Rattle.goblin_pe.proofs.added.Folds.{find_more, gathers_all, gathers_fault}
use Rattle.goblin_pe.proofs.added.file_imports.FileImports.find_import.Goals as goal
use Rattle.goblin_pe.proofs.added.file_imports.FileImports.find_import.Goals.{else-is_none-via-then-is_none+else-test, else-is_none-via-else-is_none}

-- an import that passes is the first where none was found before
first-found : (o : Option WalkedImport) (r b : Bool) (x : WalkedImport) → is_some o ≡ not r → r ≡ true → true ≡ b
    → Some (walked_value x) ≡ option_or (option_map walked_value o) (cond b (Some (walked_value x)) None)
first-found None r b x some holds passes = ap (λ (b : Bool). cond b (Some (walked_value x)) None) passes
first-found (Some y) r b x some holds passes = let wrong : true ≡ false = some ∙ ap not holds in absurd cc

-- one that does not pass changes nothing
none-found : (o : Option WalkedImport) (b : Bool) (x : WalkedImport) → false ≡ b
    → option_map walked_value o ≡ option_or (option_map walked_value o) (cond b (Some (walked_value x)) None)
none-found None b x fails = ap (λ (b : Bool). cond b (Some (walked_value x)) None) fails
none-found (Some y) b x fails = refl

-- and where one was found before, it stays
still-found : (o : Option WalkedImport) (r b : Bool) (x : WalkedImport) → is_some o ≡ not r → r ≡ false
    → option_map walked_value o ≡ option_or (option_map walked_value o) (cond b (Some (walked_value x)) None)
still-found None r b x some fails = let wrong : false ≡ true = some ∙ ap not fails in absurd cc
still-found (Some y) r b x some fails = refl

pub returns-in_err-import : goal.returns-in_err-import
returns-in_err-import g c = λ p is.
    let e = err_from_is_err_and c.from_residual.result c.from_residual.ensures.1 in
    rw (e.1, e.2) (gathers_fault _ _ _ _ _ (c.imports.invariant p is) _ _ c.in-Some.ensures.steps c.in_err-import.was)

pub imports-preserved-then-test : goal.imports-preserved-then-test
imports-preserved-then-test g c = λ p is.
    find_more p _ _ _ _ _ _ _ (c.imports.invariant p is) c.in-Some.ensures.steps c.in_ok-import.was
    (first-found c.imports.found _ _ c.in_ok-import.import c.is_none.ensures c.if-is_none.true
    (is c.in_ok-import.import true (says_at g.F.Fn c.if-test.ensures refl)))

pub imports-preserved : goal.imports-preserved
imports-preserved g c = λ p is.
    find_more p _ _ _ _ _ _ _ (c.imports.invariant p is) c.in-Some.ensures.steps c.in_ok-import.was
    (elim c.else-is_none.branch [
      | else-is_none-via-then-is_none+else-test w ↦
          none-found c.imports.found _ c.in_ok-import.import (is c.in_ok-import.import false (says_at g.F.Fn w.if-test.ensures refl))
      | else-is_none-via-else-is_none w ↦
          still-found c.imports.found _ _ c.in_ok-import.import c.is_none.ensures w.if-is_none.false
    ])

pub returns : goal.returns
returns g c = λ p is. gathers_all _ _ _ _ _ (c.imports.invariant p is) c.in-None.ensures.steps
