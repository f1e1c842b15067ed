use Rattle.cj_decimal.proofs.Common.{arith, ℕ, pos, neg_ℤ, ◌+ℤ◌, ◌<ℤ◌, ◌≤ℤ◌, sym, ints, scaled}
use Rattle.std.specs.Int.{int_gap}
use Rattle.cj_decimal.proofs.Scales.{units_below, far_units, value_in_units, none_in_units}
use Rattle.cj_decimal.proofs.Values.{gap_is, coefficient_same, coefficient_cast}
use Rattle.cj_decimal.proofs.decimal.Decimal.in_units.Goals as goal

pub returns-then-power-lt0-clause-none : goal.returns-then-power-lt0-clause-none
returns-then-power-lt0-clause-none c = λ u same.
    let inside = c.self.inside in
    let range = c.self.invariant.1 in
    let low : inside.power <ℤ neg_ℤ (pos c.args.after_point) =
    omega (arith, ints, range.power_low, range.power_high, c.requires.bounded, c.requires.apart) in
    absurd (units_below (scaled inside.coefficient inside.power) u (neg_ℤ (pos c.args.after_point)) c.self.invariant.0
    (rw c.self.view_is same) low (omega (arith, ints)))

pub returns-then-power-digits-clause-none : goal.returns-then-power-digits-clause-none
returns-then-power-digits-clause-none c = λ u same.
    let inside = c.self.inside in
    let range = c.self.invariant.1 in
    let high : pos c.args.digits ≤ℤ (inside.power +ℤ pos c.args.after_point) =
    omega (arith, ints, range.power_low, range.power_high, c.requires.bounded, c.requires.apart) in
    let k : ℕ = int_gap (neg_ℤ (pos c.args.after_point)) inside.power in
    let at = gap_is (neg_ℤ (pos c.args.after_point)) inside.power (omega (arith, ints, high)) in
    far_units u c.args.after_point c.args.digits k c.self.invariant.0
    (sym at) c.requires.apart (omega (arith, ints, at, high)) (rw c.self.view_is same)

pub with_zeros-requires-clause-fits : goal.with_zeros-requires-clause-fits
with_zeros-requires-clause-fits c =
    coefficient_cast c.self.invariant.1

pub returns : goal.returns
returns c =
    let range = c.self.invariant.1 in
    record {
      value =
          value_in_units c.with_zeros.result
          (neg_ℤ (pos c.args.after_point)) c.args.digits _ c.with_zeros.ensures.value c.self.view_is
          (coefficient_same range)
          (omega (arith, ints, range.power_low, range.power_high, c.requires.bounded, c.requires.apart));
      none =
          none_in_units c.with_zeros.result
          (neg_ℤ (pos c.args.after_point)) c.args.digits _ c.with_zeros.ensures.none c.self.view_is
          (coefficient_same range)
          (omega (arith, ints, range.power_low, range.power_high, c.requires.bounded, c.requires.apart));
    }
