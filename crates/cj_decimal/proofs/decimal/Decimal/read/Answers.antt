use Rattle.cj_decimal.proofs.Common.{refl, false≢true}
use Rattle.cj_decimal.proofs.Classes.{has_one_value, value_of_read, out_of_read, not_both, class}
use Rattle.cj_decimal.proofs.decimal.Decimal.read.Goals as goal

pub returns-in_default-from_parts-clause-ok : goal.returns-in_default-from_parts-clause-ok
returns-in_default-from_parts-clause-ok c =
    let read = c.in-Some.ensures.reads in
    let out = out_of_read read (c.in_default-from_parts.ensures.none _ _ read.digits read.exponent_is) in
    (λ e. absurd (false≢true e), λ r. absurd (not_both c.args.spelling.now r out))

pub returns-in_default-from_parts-clause-number_range :
    goal.returns-in_default-from_parts-clause-number_range
returns-in_default-from_parts-clause-number_range c =
    let read = c.in-Some.ensures.reads in (
      λ _. out_of_read read (c.in_default-from_parts.ensures.none _ _ read.digits read.exponent_is),
      λ _. refl,
    )

pub returns-in_default-from_parts-clause-one_value :
    goal.returns-in_default-from_parts-clause-one_value
returns-in_default-from_parts-clause-one_value c = has_one_value c.args.spelling.now

pub returns-clause-number_range : goal.returns-clause-number_range
returns-clause-number_range c =
    let read = c.in-Some.ensures.reads in
    let decimal = c.in-Some-from_parts.decimal in
    let form = c.in-Some-from_parts.ensures.form in
    let value =
    value_of_read read (c.in-Some-from_parts.ensures.some _ _ read.digits read.exponent_is) form.0 in
    (λ e. absurd (cc e), λ o. absurd (not_both c.args.spelling.now (decimal, value, form.1) o))

pub returns-clause-one_value : goal.returns-clause-one_value
returns-clause-one_value c = has_one_value c.args.spelling.now

pub returns-in_default-from_parts-clause-class :
    goal.returns-in_default-from_parts-clause-class
returns-in_default-from_parts-clause-class c = class c.args.spelling.now

pub returns-clause-class : goal.returns-clause-class
returns-clause-class c = class c.args.spelling.now
