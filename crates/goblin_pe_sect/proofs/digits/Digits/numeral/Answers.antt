use Rattle.std.proofs.Common.{◌<◌, ◌≤◌, refl, sym, arith, nat_lt, slice_index, lt-ltb}
use Rattle.goblin_pe_sect.specs.Digits.{digits_sum, digit, radix}
use Rattle.goblin_pe_sect.proofs.DigitSums.{all-more, number-more, number_fits, numeral-none}
use Rattle.goblin_pe_sect.proofs.digits.Digits.numeral.Goals as goal

pub digits-init : goal.digits-init
unfolding digits_sum
digits-init c = record { all = refl; number = refl; small = omega arith }

pub overflow_mul-number : goal.overflow_mul-number
overflow_mul-number c =
    let fits = number_fits c.args.self c.digits.byte-index c.digits.number c.in_ok-value.value c.radix.result c.radix.ensures (omega (arith, c.digits-test.true, c.requires)) c.digits.invariant.small c.in_ok-value.ensures.below in
    omega (arith, fits.1)

pub overflow_add-number : goal.overflow_add-number
overflow_add-number c =
    let fits = number_fits c.args.self c.digits.byte-index c.digits.number c.in_ok-value.value c.radix.result c.radix.ensures (omega (arith, c.digits-test.true, c.requires)) c.digits.invariant.small c.in_ok-value.ensures.below in
    omega (arith, fits.1)

pub digits-preserved : goal.digits-preserved
digits-preserved c =
    let s = c.args.self in
    let text = c.args.text.now in
    let i = c.digits.byte-index in
    let so_far = c.digits.invariant in
    let below : digit s (slice_index text i) < radix s = omega (arith, c.in_ok-value.ensures.value, c.in_ok-value.ensures.below) in
    let fits = number_fits s i c.digits.number c.in_ok-value.value c.radix.result c.radix.ensures (omega (arith, c.digits-test.true, c.requires)) so_far.small c.in_ok-value.ensures.below in
    record {
      all = all-more (λ b. nat_lt (digit s b) (radix s)) text i c.digits-test.true so_far.all (lt-ltb _ _ below);
      number = number-more s text i c.digits.number c.in_ok-value.value c.radix.result c.digits-test.true c.radix.ensures c.in_ok-value.ensures.value so_far.number;
      small = fits.0;
    }

pub returns-in_err-value : goal.returns-in_err-value
returns-in_err-value c =
    let s = c.args.self in
    let past : radix s ≤ digit s (slice_index c.args.text.now c.digits.byte-index) = c.in_err-value.ensures.none in
    rw c.from_residual.ensures (sym (numeral-none s c.args.text.now c.digits.byte-index c.digits-test.true past))
