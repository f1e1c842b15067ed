use Rattle.cj_decimal.proofs.Common.{arith, sym, ◌∙◌, get_or}
use Rattle.cj_decimal.proofs.Grammar.{passes_step, carries_step, digit_bounds}
use Rattle.cj_decimal.proofs.digits.read_short.Goals as goal

pub loop-at-preserved : goal.loop-at-preserved
loop-at-preserved c =
    let digit = sym c.is_ascii_digit.ensures.value ∙ c.if-not-is_ascii_digit.false in
    record {
      passes = passes_step _ _ _ c.loop-at.invariant.passes c.loop-at-test.true digit;
      carries = carries_step _ _ _ _ _ c.loop-at.invariant.carries c.loop-at-test.true digit;
      short = omega (arith, digit_bounds (get_or c.args.spelling.now c.loop-at.at 0) digit);
    }
