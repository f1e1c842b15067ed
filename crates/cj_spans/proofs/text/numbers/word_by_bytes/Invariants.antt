use Rattle.cj_spans.proofs.Common.{◌≡◌, ◌+◌, ◌^◌, code_points_from, code_points_left, digits}
use Rattle.cj_spans.proofs.text.numbers.word_by_bytes.Given as goal

abbrev pub invariant-loop-weight : goal.invariant-loop-weight
invariant-loop-weight l = l.word + digits l.weight (code_points_from l.fn.points.bytes.now l.place)
    ≡ digits (256 ^ 7) (code_points_left l.fn.points)

abbrev pub decreases-loop-weight : goal.decreases-loop-weight
decreases-loop-weight l = l.weight
