use Rattle.cj_decimal.proofs.Common.{arith, ◌≡◌, ◌<◌, ◌+◌, ◌^◌, ℕ, pos, neg_ℤ, ◌+ℤ◌, ◌-ℤ◌, ◌<ℤ◌, ◌≤ℤ◌, inl, inr, sym, ◌∙◌, ints}
use Rattle.cj_decimal.proofs.Classes.{trimmed_le, too_long_out, stands_trimmed, power_in, power_low_out, power_high_out, power_out, in_form, same_form, sign_cast, power_cast}
use Rattle.cj_decimal.proofs.decimal.Decimal.from_parts.Goals as goal

pub returns-then-parts-clause-none : goal.returns-then-parts-clause-none
returns-then-parts-clause-none c = λ n e s r. too_long_out _ _ (s.cut c.if-parts.true)

pub returns-then-power-lt-LEAST_POWER-clause-none :
    goal.returns-then-power-lt-LEAST_POWER-clause-none
returns-then-power-lt-LEAST_POWER-clause-none c = λ n e s r.
    let parts = c.args.parts in
    let t = c.without_zeros-lead.ensures.trimmed in
    let up : ℕ = parts.digits.extra + c.without_zeros-lead.result.1 in
    let whole = stands_trimmed s c.if-parts.false t in
    let low : (parts.exponent -ℤ pos parts.after_point +ℤ pos up) <ℤ neg_ℤ (pos 1000000) =
    omega (arith, ints, c.without_zeros-lead.ensures.few, parts.exponent_fits) in
    power_out parts.negative _ up (e -ℤ pos parts.after_point) whole t.last
    (inl (power_low_out parts.after_point up r (omega arith)
    (omega (arith, c.without_zeros-lead.ensures.few)) low))

pub returns-then-power-gt-GREATEST_POWER-clause-none : goal.returns-then-power-gt-GREATEST_POWER-clause-none
returns-then-power-gt-GREATEST_POWER-clause-none c = λ n e s r.
    let parts = c.args.parts in
    let t = c.without_zeros-lead.ensures.trimmed in
    let up : ℕ = parts.digits.extra + c.without_zeros-lead.result.1 in
    let whole = stands_trimmed s c.if-parts.false t in
    let high : pos 1000000 <ℤ (parts.exponent -ℤ pos parts.after_point +ℤ pos up) =
    omega (arith, ints, c.without_zeros-lead.ensures.few, parts.exponent_fits) in
    power_out parts.negative _ up (e -ℤ pos parts.after_point) whole t.last
    (inr (power_high_out parts.after_point up r (omega arith) (omega (arith, c.without_zeros-lead.ensures.few)) high))

pub with_sign-requires : goal.with_sign-requires
with_sign-requires c =
    omega (arith, trimmed_le c.without_zeros-lead.ensures.trimmed, c.args.parts.digits.lead_fits)

pub invariant_of-result-2 : goal.invariant_of-result-2
invariant_of-result-2 c =
    let parts = c.args.parts in
    let few = c.without_zeros-lead.ensures.few in
    in_form parts.negative c.without_zeros-lead.ensures.trimmed parts.digits.lead_fits
    (omega (arith, ints, c.with_sign.ensures)) (omega (arith, ints, few, parts.exponent_fits))
    (omega (arith, ints, few, parts.exponent_fits))

pub returns-clause-some : goal.returns-clause-some
returns-clause-some c = λ n e s r.
    let parts = c.args.parts in
    let few = c.without_zeros-lead.ensures.few in
    let up : ℕ = parts.digits.extra + c.without_zeros-lead.result.1 in
    let small : c.without_zeros-lead.result.0 < 10 ^ 36 =
    omega (arith, trimmed_le c.without_zeros-lead.ensures.trimmed, parts.digits.lead_fits) in
    let whole =
    stands_trimmed s c.if-parts.false c.without_zeros-lead.ensures.trimmed in
    let low : neg_ℤ (pos 1000000) ≤ℤ (parts.exponent -ℤ pos parts.after_point +ℤ pos up) =
    omega (arith, ints, few, parts.exponent_fits) in
    let high : (parts.exponent -ℤ pos parts.after_point +ℤ pos up) ≤ℤ pos 1000000 =
    omega (arith, ints, few, parts.exponent_fits) in
    let power : (e -ℤ pos parts.after_point +ℤ pos up) ≡ (parts.exponent -ℤ pos parts.after_point +ℤ pos up) =
    power_in parts.after_point up r (omega arith) (omega (arith, few)) low high in
    same_form parts.negative c.without_zeros-lead.result.0 up (e -ℤ pos parts.after_point) whole
    (sign_cast parts.negative c.without_zeros-lead.result.0 c.with_sign.ensures small)
    (power_cast parts.exponent parts.after_point parts.digits.extra c.without_zeros-lead.result.1
    parts.exponent_fits (omega arith) (omega arith) few low high ∙ sym power)

pub returns-clause-form : goal.returns-clause-form
returns-clause-form c =
    let parts = c.args.parts in
    let few = c.without_zeros-lead.ensures.few in
    in_form parts.negative c.without_zeros-lead.ensures.trimmed parts.digits.lead_fits
    (omega (arith, ints, c.with_sign.ensures)) (omega (arith, ints, few, parts.exponent_fits))
    (omega (arith, ints, few, parts.exponent_fits))
