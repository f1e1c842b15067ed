use Rattle.std.proofs.Common.{arith}
use Rattle.std.proofs.Common.{refl}
use Rattle.cj_stream.proofs.BoxTextLemmas.{answer-none, answer-out, answer-read}
use Rattle.cityseq_c.proofs.fault_place.read_edge.Goals as goal

pub returns-in-Ok : goal.returns-in-Ok
returns-in-Ok c =
    grind (arith, answer-read)

pub returns-in-Err-NumberRange : goal.returns-in-Err-NumberRange
returns-in-Err-NumberRange c =
    answer-out c.args.field.now
    (c.read.ensures.number_range.0 (rw (c.in-Err-NumberRange.is, c.in-Err-NumberRange.field-0-is) refl))

pub returns-in-Err-NotANumber : goal.returns-in-Err-NotANumber
returns-in-Err-NotANumber c =
    grind (arith, answer-none)
