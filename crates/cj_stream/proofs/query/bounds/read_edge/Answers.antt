use Rattle.cj_stream.proofs.BoxTextLemmas.{answer-read, answer-out, answer-none}
use Rattle.cj_stream.proofs.query.bounds.read_edge.Goals as goal

pub returns-in-Ok : goal.returns-in-Ok
returns-in-Ok c =
    answer-read _ _ (rw c.as_bytes.ensures.value at c.in-Ok.ensures.value) c.in-Ok.ensures.in_range _
    c.fixed18.ensures.value
    c.fixed18.ensures.fixed

pub returns-in-Err-NumberRange : goal.returns-in-Err-NumberRange
returns-in-Err-NumberRange c =
    answer-out _
    (rw c.as_bytes.ensures.value at
    (c.read.ensures.number_range.0 (rw (c.in-Err-NumberRange.is, c.in-Err-NumberRange.field-0-is))))

pub returns-in-Err-NotANumber : goal.returns-in-Err-NotANumber
returns-in-Err-NotANumber c =
    answer-none _
    (rw c.as_bytes.ensures.value at
    (c.read.ensures.not_a_number.0 (rw (c.in-Err-NotANumber.is, c.in-Err-NotANumber.field-0-is))))
