use Rattle.std.proofs.Common.{rules, ◌≡◌, ◌+◌, Bool, true, false, cond, List, ◌∷◌, count_by, arith, refl}
use Rattle.std.proofs.{lemmas.Fn.says_at, lemmas.List.Sums.sum_by-cons}
use Rattle.goblin_pe_export.specs.added.ExportWalks.{NumberedExport, exports_left, walked_export}
use Rattle.goblin_pe_export.proofs.added.exports.Exports.count_exports.Goals as goal

-- an export more or less, by what the test says of the first
counted-first : (p : NumberedExport → Bool) (x : NumberedExport) (all rest : List NumberedExport) (b : Bool) → b ≡ p x → all ≡ x ∷ rest
    → count_by p all ≡ cond b 1 0 + count_by p rest
counted-first p x all rest b is begins = rw (is, begins) (sum_by-cons (λ y. cond (p y) 1 0) x rest)

pub exports-preserved-then-test : goal.exports-preserved-then-test
exports-preserved-then-test g c = (
  λ p is.
      let first = counted-first p (walked_export c.in-Some.export) (exports_left c.exports.export-iterator) (exports_left c.next.new.self) true
      (is c.in-Some.export true (says_at g.F.Fn c.if-test.ensures refl)) c.in-Some.ensures.steps.0 in
      omega (arith, first, c.exports.invariant.0 p is),
  search rules,
)

pub exports-preserved : goal.exports-preserved
exports-preserved g c = (
  λ p is.
      let first = counted-first p (walked_export c.in-Some.export) (exports_left c.exports.export-iterator) (exports_left c.next.new.self) false
      (is c.in-Some.export false (says_at g.F.Fn c.if-test.ensures refl)) c.in-Some.ensures.steps.0 in
      omega (arith, first, c.exports.invariant.0 p is),
  search rules,
)
