use Rattle.std.proofs.Common.{◌≡◌, ℕ, ◌+◌, ◌-◌, ◌^◌, Bool, true, false, cond, ap, arith, refl, ◌∙◌, count_by, min}
use Rattle.std.proofs.{lemmas.Result.err_from_is_err_and, lemmas.Fn.says_at}
use Rattle.goblin_pe.proofs.added.Folds.{count_more, gathers_all, gathers_fault}
use Rattle.goblin_pe.proofs.added.file_imports.FileImports.count_imports.Goals as goal

-- a count is at most the greatest number already
capped-same : (n k m : ℕ) → n ≡ min k m → n ≡ min (n + 0) m
capped-same n k m is = omega (arith, is)

pub returns-in_err-import : goal.returns-in_err-import
returns-in_err-import g c = λ p is.
    let e = err_from_is_err_and c.from_residual.result c.from_residual.ensures.1 in
    rw (e.1, e.2) (gathers_fault _ _ _ _ _ (c.imports.invariant p is) _ _ c.in-Some.ensures.steps c.in_err-import.was)

pub imports-preserved-then-test : goal.imports-preserved-then-test
imports-preserved-then-test g c = λ p is.
    count_more p _ _ _ _ _ _ _ (c.imports.invariant p is) c.in-Some.ensures.steps c.in_ok-import.was
    (c.saturating_add-count.ensures
    ∙ ap (λ (b : Bool). min (c.imports.count + cond b 1 0) (2 ^ 64 - 1)) (is c.in_ok-import.import true (says_at g.F.Fn c.if-test.ensures refl)))

pub imports-preserved : goal.imports-preserved
imports-preserved g c = λ p is.
    count_more p _ _ _ _ _ _ _ (c.imports.invariant p is) c.in-Some.ensures.steps c.in_ok-import.was
    (capped-same c.imports.count (count_by p (c.imports.invariant p is).items) (2 ^ 64 - 1) (c.imports.invariant p is).is
    ∙ ap (λ (b : Bool). min (c.imports.count + cond b 1 0) (2 ^ 64 - 1)) (is c.in_ok-import.import false (says_at g.F.Fn c.if-test.ensures refl)))

pub returns : goal.returns
returns g c = λ p is. gathers_all _ _ _ _ _ (c.imports.invariant p is) c.in-None.ensures.steps
