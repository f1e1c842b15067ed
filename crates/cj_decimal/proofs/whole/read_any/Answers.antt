use Rattle.cj_decimal.proofs.Common.{Err, sym, ap, ◌∙◌}
use Rattle.cj_decimal.proofs.Readings.{answer_of_whole, answer_fault}
use Rattle.cj_decimal.proofs.whole.read_any.Goals as goal

pub returns-in-Ok : goal.returns-in-Ok
returns-in-Ok c = λ class.
    sym (answer_of_whole c.args.spelling.now c.in-Ok.decimal c.in-Ok.ensures.value c.in-Ok.ensures.in_range
    c.whole.result class c.whole.ensures.value c.whole.ensures.whole.1)

pub returns-in-Err : goal.returns-in-Err
returns-in-Err c = λ class.
    sym (answer_fault c.args.spelling.now c.in-Err.fault class
    (λ e. c.read.ensures.not_a_number.0 (c.in-Err.is ∙ ap Err e))
    (λ e. c.read.ensures.number_range.0 (c.in-Err.is ∙ ap Err e)))
