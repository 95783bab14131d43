use Rattle.std.proofs.Common.{◌≡◌, ◌+◌, ◌-◌, ◌/◌, ◌%◌, ℕ, ap, sym, ◌∙◌, arith, take, drop, map, ◌++◌, length-set, mod-lt}
use Rattle.goblin_pe_sect.specs.Digits.{digit_byte, last_digits, radix}
use Rattle.goblin_pe_sect.proofs.DigitSums.{finished, finished-step, finished-end, radix_range}
use Rattle.goblin_pe_sect.proofs.digits.Digits.write.Goals as goal

pub digits-preserved : goal.digits-preserved
digits-preserved c =
    let s = c.args.self in
    let before = c.digits.invariant in
    let at : c.digits.at - 1 + 1 ≡ c.digits.at = omega (arith, c.digits-test.true) in
    let rest = ap (λ (r : ℕ). c.digits.rest / r) c.radix-rest.ensures in
    let byte = c.byte.ensures ∙ ap (λ (r : ℕ). digit_byte s (c.digits.rest % r)) c.radix.ensures in
    let step = finished-step s c.args.from (c.digits.at - 1) c.digits.rest (c.digits.rest / c.radix-rest.result) c.byte.result c.digits.name (omega (arith, c.digits-test.true)) (omega (arith, before.len, before.ends, c.digits-test.true)) rest byte in
    record {
      wanted = step ∙ ap (λ (k : ℕ). finished s c.args.from k c.digits.rest c.digits.name) at ∙ before.wanted;
      begins = omega (arith, c.digits-test.true);
      ends = omega (arith, before.ends);
      len = length-set c.digits.name (c.digits.at - 1) c.byte.result ∙ before.len;
    }

pub nonzero_rem-rest : goal.nonzero_rem-rest
nonzero_rem-rest c = omega (arith, radix_range c.args.self)

pub nonzero_div-rest : goal.nonzero_div-rest
nonzero_div-rest c = omega (arith, radix_range c.args.self)

pub byte-requires : goal.byte-requires
byte-requires c =
    let below = mod-lt c.digits.rest (radix_range c.args.self).0 in
    rw c.radix.ensures below

pub returns : goal.returns
returns c =
    let s = c.args.self in
    let end = c.digits.invariant in
    let there : c.args.from ≡ c.digits.at = omega (arith, end.begins, c.digits-test.false) in
    let count : c.args.from + c.args.count - c.args.from ≡ c.args.count = omega arith in
    let written = sym (finished-end s c.args.from c.digits.rest c.digits.name) ∙ ap (λ (k : ℕ). finished s c.args.from k c.digits.rest c.digits.name) there ∙ end.wanted in
    written ∙ ap (λ (k : ℕ). take c.args.from c.args.name.now ++ map (digit_byte s) (last_digits (radix s) k c.args.number) ++ drop (c.args.from + c.args.count) c.args.name.now) count
