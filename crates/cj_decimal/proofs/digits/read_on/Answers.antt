use Rattle.cj_decimal.proofs.Common.{sym, ◌∙◌}
use Rattle.cj_decimal.proofs.Grammar.{passes_refl, stops_here}
use Rattle.cj_decimal.proofs.digits.read_on.Goals as goal

pub returns-then-not-has_digit-clause-stops : goal.returns-then-not-has_digit-clause-stops
returns-then-not-has_digit-clause-stops c =
    stops_here _ _ _ (passes_refl c.args.spelling.now c.args.from c.requires.within)
    (sym c.has_digit.ensures ∙ c.if-not-has_digit.true)
