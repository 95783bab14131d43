use Rattle.std.proofs.Common.{◌≡◌, ◌∙◌, ◌+◌, ◌<◌, ℕ, Bool, true, false, cond, List, ◌∷◌, Some, None, length, nat_lt, not, refl, sym, arith}
use Rattle.std.specs.List.{position_or_len}
use Rattle.std.proofs.{lemmas.Bool.Decides.nat_tests, lemmas.Fn.says_at}
use Rattle.goblin_pe_sect.specs.SectionTable.{Section}
use Rattle.goblin_pe_sect.proofs.address_map.records.MappedRecords.find.Goals as goal
use Rattle.goblin_base.proofs.First.{found-first}

-- by what the test says of the first section
place-first : (p : Section → Bool) (x : Section) (all rest : List Section) (b : Bool) → b ≡ p x → all ≡ x ∷ rest
    → position_or_len p all ≡ cond (not b) (1 + position_or_len p rest) 0
place-first p x all rest b is begins = rw (is, begins) refl

length-first : (x : Section) (all rest : List Section) → all ≡ x ∷ rest → length all ≡ 1 + length rest
length-first x all rest begins = rw begins (omega arith)

placed : (n m i : ℕ) → n ≡ i → i < m → Some i ≡ cond (nat_lt n m) (Some n) None
placed n m i is within = grind (arith, nat_tests)

pub sections-init : goal.sections-init
sections-init g c = record {
  count = omega arith;
  place = λ p is. omega arith;
  first = λ p is. refl;
}

pub sections-preserved : goal.sections-preserved
sections-preserved g c =
    let now = c.sections.invariant in
    record {
      count = omega (arith, now.count, length-first _ _ _ c.in_ok-section.ensures);
      place = λ p is. omega (arith, now.place p is, place-first p _ _ _ false (is _ false (says_at g.F.Fn c.if-test.ensures refl)) c.in_ok-section.ensures);
      first = λ p is. now.first p is ∙ found-first p _ _ _ false (is _ false (says_at g.F.Fn c.if-test.ensures refl)) c.in_ok-section.ensures;
    }

pub returns-then-test-clause-index : goal.returns-then-test-clause-index
returns-then-test-clause-index g c = λ p is.
    let now = c.sections.invariant in
    placed _ _ _
    (omega (arith, now.place p is, place-first p _ _ _ true (is _ true (says_at g.F.Fn c.if-test.ensures refl)) c.in_ok-section.ensures))
    (omega (arith, now.count, length-first _ _ _ c.in_ok-section.ensures))

pub returns-then-test-clause-section : goal.returns-then-test-clause-section
returns-then-test-clause-section g c = λ p is.
    sym
    (c.sections.invariant.first p is
    ∙ found-first p _ _ _ true (is _ true (says_at g.F.Fn c.if-test.ensures refl)) c.in_ok-section.ensures)
