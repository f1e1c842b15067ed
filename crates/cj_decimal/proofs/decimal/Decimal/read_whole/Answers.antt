use Rattle.cj_decimal.proofs.Readings.{answer_below}
use Rattle.cj_decimal.proofs.decimal.Decimal.read_whole.Goals as goal

pub returns-in-None-clause-small : goal.returns-in-None-clause-small
returns-in-None-clause-small c = answer_below c.args.spelling.now c.read_any.ensures
