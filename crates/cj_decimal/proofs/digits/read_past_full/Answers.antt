use Rattle.cj_decimal.proofs.Common.{◌≡◌, ◌-◌, true, sym, ap, arith, get_or, ◌∙◌, rules, is_ascii_digit}
use Rattle.cj_decimal.proofs.Parts.{push_zero, push_lost}
use Rattle.cj_decimal.proofs.Grammar.{passes_step, carries_step, stops_here, carried_here, is_digit_at}
use Rattle.cj_decimal.proofs.digits.read_past_full.Goals as goal

pub loop-at-preserved : goal.loop-at-preserved
loop-at-preserved c =
    let byte : get_or c.args.spelling.now c.loop-at.at 0 ≡ 48 = c.if-spelling-at-eq48.true in
    let digit : is_ascii_digit (get_or c.args.spelling.now c.loop-at.at 0) ≡ true = ap is_ascii_digit byte in
    let none : get_or c.args.spelling.now c.loop-at.at 0 - 48 ≡ 0 = omega (arith, byte) in
    record {
      passes = passes_step _ _ _ c.loop-at.invariant.passes c.loop-at-test.true digit;
      stands = λ n s.
          let so_far = c.loop-at.invariant.stands n s in
          (_, carries_step _ _ _ _ _ so_far.1 c.loop-at-test.true digit, rw none (push_zero so_far.2));
      bounded = omega arith;
    }

pub loop-lost-smaller : goal.loop-lost-smaller
loop-lost-smaller c =
    let there = is_digit_at c.args.spelling.now c.loop-lost.at (sym c.has_digit.ensures ∙ c.loop-lost-test.true) in
    omega arith

pub loop-lost-preserved : goal.loop-lost-preserved
loop-lost-preserved c =
    let there = is_digit_at c.args.spelling.now c.loop-lost.at (sym c.has_digit.ensures ∙ c.loop-lost-test.true) in
    record {
      passes = passes_step _ _ _ c.loop-lost.invariant.passes there.1.within there.1.digit;
      stands = λ n s.
          let so_far = c.loop-lost.invariant.stands n s in (
            _,
            carries_step _ _ _ _ _ so_far.1 there.1.within there.1.digit,
            push_lost _ _ c.requires.full (λ e. omega (
              arith,
              c.loop-lost.invariant.other e there.1.within,
              there.1.low,
            ))
                (omega (arith, there.1.high)) so_far.2,
          );
      other = λ e. absurd (cc e);
      bounded = omega arith;
    }

pub returns : goal.returns
returns c = record {
  stops = stops_here _ _ _ c.loop-lost.invariant.passes (sym c.has_digit.ensures ∙ c.loop-lost-test.false);
  stands =
      λ n s.
      let so_far = c.loop-lost.invariant.stands n s in
      rw (← (carried_here _ _ _ _ _ so_far.1 (sym c.has_digit.ensures ∙ c.loop-lost-test.false))) so_far.2;
  bounded = search rules;
}
