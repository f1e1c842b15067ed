use Rattle.cj_spans.proofs.Common.{◌≡◌, code_points_left, tail_on}
use Rattle.cj_spans.proofs.text.numbers.tail.Given as goal

abbrev pub invariant-loop-point : goal.invariant-loop-point
invariant-loop-point l = tail_on l.tail (code_points_left l.point-iterator) ≡ tail_on 0 (code_points_left l.fn.points)
