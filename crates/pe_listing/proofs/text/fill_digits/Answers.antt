use Rattle.std.proofs.Common.{arith}
use Rattle.pe_listing.proofs.Digits.{all_ascii, all_filled, more_filled, none_filled, not_first}
use Rattle.pe_listing.proofs.text.fill_digits.Goals as goal

pub filling-init : goal.filling-init
filling-init c = none_filled _ _ _ c.requires.room c.told-places

pub overflow_sub-start : goal.overflow_sub-start
overflow_sub-start c = not_first _ _ _ _ _ c.filling.invariant c.filling-test.true

pub filling-preserved : goal.filling-preserved
filling-preserved c =
    let some = not_first _ _ _ _ _ c.filling.invariant c.filling-test.true in
    more_filled _ _ _ _ _ _ c.filling.invariant _ (omega arith) c.requires.lowest c.filling-test.true c.digit.ensures.value c.digit.ensures.ascii

pub returns : goal.returns
returns c = record {
  start = omega (arith, c.filling.invariant.within);
  value = all_filled _ _ _ _ _ _ c.filling.invariant c.filling-test.false c.digit-2.ensures.value;
  ascii = all_ascii _ _ _ _ _ _ c.filling.invariant c.digit-2.ensures.ascii;
}
