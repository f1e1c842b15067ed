use Rattle.cj_spans.proofs.Common.{◌≡◌, ◌+◌, code_points_left, digits}
use Rattle.cj_spans.proofs.text.numbers.word_on.Given as goal

abbrev pub invariant-loop-point : goal.invariant-loop-point
invariant-loop-point l = l.word + digits l.weight (code_points_left l.point-iterator)
    ≡ l.fn.front + digits l.fn.first_weight (code_points_left l.fn.points)
