use Rattle.cj_decimal.proofs.Common.{arith, sym, ◌∙◌, rules}
use Rattle.cj_decimal.proofs.Grammar.{passes_step, carries_step, stops_here, carried_here, is_digit_at}
use Rattle.cj_decimal.proofs.digits.read_long.Goals as goal

pub loop-digits-smaller : goal.loop-digits-smaller
loop-digits-smaller c =
    let there = is_digit_at c.args.spelling.now c.loop-digits.at (sym c.has_digit.ensures ∙ c.if-not-has_digit.false) in
    omega arith

pub bounds-spelling-at : goal.bounds-spelling-at
bounds-spelling-at c =
    (is_digit_at c.args.spelling.now c.loop-digits.at (sym c.has_digit.ensures ∙ c.if-not-has_digit.false)).1.within

pub overflow_sub-spelling : goal.overflow_sub-spelling
overflow_sub-spelling c =
    (is_digit_at c.args.spelling.now c.loop-digits.at (sym c.has_digit.ensures ∙ c.if-not-has_digit.false)).1.low

pub push-digits-requires-clause-digit : goal.push-digits-requires-clause-digit
push-digits-requires-clause-digit c =
    let there = is_digit_at c.args.spelling.now c.loop-digits.at (sym c.has_digit.ensures ∙ c.if-not-has_digit.false) in
    omega (arith, there.1.high)

pub loop-digits-preserved : goal.loop-digits-preserved
loop-digits-preserved c =
    let there = is_digit_at c.args.spelling.now c.loop-digits.at (sym c.has_digit.ensures ∙ c.if-not-has_digit.false) in
    record {
      passes = passes_step _ _ _ c.loop-digits.invariant.passes there.1.within there.1.digit;
      stands = λ n s.
          let so_far = c.loop-digits.invariant.stands n s in (
            _,
            carries_step _ _ _ _ _ so_far.1 there.1.within there.1.digit,
            c.push-digits.ensures.stands so_far.0
                so_far.2,
          );
      bounded = omega arith;
    }

pub returns-then-not-has_digit : goal.returns-then-not-has_digit
returns-then-not-has_digit c = record {
  stops = stops_here _ _ _ c.loop-digits.invariant.passes (sym c.has_digit.ensures ∙ c.if-not-has_digit.true);
  stands =
      λ n s.
      let so_far = c.loop-digits.invariant.stands n s in
      rw (← (carried_here _ _ _ _ _ so_far.1 (sym c.has_digit.ensures ∙ c.if-not-has_digit.true))) so_far.2;
  bounded = search rules;
}
