use Rattle.std.proofs.Common.{true, false, refl, sym, ◌∙◌}
use Rattle.std.proofs.lemmas.Fn.{says_at}
use Rattle.goblin_pe_export.specs.added.ExportWalks.{exports_left, walked_export}
use Rattle.goblin_pe_export.proofs.added.exports.Exports.find_export.Goals as goal
use Rattle.goblin_base.proofs.First.{found-first}

pub exports-preserved : goal.exports-preserved
exports-preserved g c = λ p is.
    c.exports.invariant p is
    ∙ found-first p (walked_export c.in-Some.export) (exports_left c.exports.export-iterator) (exports_left c.next.new.self) false
    (is c.in-Some.export false (says_at g.F.Fn c.if-test.ensures refl)) c.in-Some.ensures.steps.0

pub returns-then-test : goal.returns-then-test
returns-then-test g c = λ p is.
    sym
    (c.exports.invariant p is
    ∙ found-first p (walked_export c.in-Some.export) (exports_left c.exports.export-iterator) (exports_left c.next.new.self) true
    (is c.in-Some.export true (says_at g.F.Fn c.if-test.ensures refl)) c.in-Some.ensures.steps.0)
