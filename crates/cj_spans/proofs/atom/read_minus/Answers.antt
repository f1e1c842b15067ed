use Rattle.cj_spans.proofs.Common.{arith, sym, ◌∙◌}
use Rattle.cj_spans.proofs.Atoms.{goes_minus, goes_minus_zero, reads_far}
use Rattle.cj_spans.proofs.atom.read_minus.Goals as goal

pub returns-then-line-place-eq48 : goal.returns-then-line-place-eq48
returns-then-line-place-eq48 c =
    let l = c.requires in
    reads_far (goes_minus_zero _ _ (omega arith) c.if-line-place-eq48.true) c.read_zero.ensures

pub returns : goal.returns
returns c =
    let l = c.requires in
    reads_far (goes_minus _ _ (omega arith) c.if-line-place-eq48.false
    (sym c.is_digit.ensures ∙ c.if-not-is_digit.false)) c.read_whole.ensures
