use Rattle.std.proofs.Common.{ap, arith}
use Rattle.goblin_pe_c_headers.proofs.GivenOnward.{index-full}
use Rattle.goblin_pe_c_headers.proofs.Symbols.{giving_all, giving_next, giving_start}
use Rattle.goblin_pe_c_headers.proofs.symbol.fill_symbols_at.Goals as goal

pub symbols-init : goal.symbols-init
symbols-init c = giving_start _ _ _ _ _

pub symbols-preserved : goal.symbols-preserved
symbols-preserved c = giving_next _ _ _ c.symbols.invariant _ _ (omega (arith, c.symbols-test.true, c.symbols.auto.records)) c.in-Some.ensures.inside (ap (λ x. x.1.number_of_aux_symbols) c.in-Some.ensures.some) c.fill_symbol.ensures

pub returns-in_default : goal.returns-in_default
returns-in_default c = rw c.ended.ensures (giving_all _ _ _ c.symbols.invariant (c.record_at.ensures.none c.in_default.is) (omega (arith, c.symbols-test.true, c.symbols.auto.records)))

pub returns : goal.returns
returns c =
    let full = c.symbols-test.false in
    let end = c.symbols.auto.count-end in
    let same = c.symbols.auto.records in
    rw c.goes_on.ensures (index-full c.symbols.invariant _ (omega (arith, full, end, same)) (omega (arith, full, end, same)))
