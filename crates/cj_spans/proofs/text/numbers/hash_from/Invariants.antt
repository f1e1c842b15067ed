use Rattle.cj_spans.proofs.Common.{◌≡◌, code_points_left, hash_on}
use Rattle.cj_spans.proofs.text.numbers.hash_from.Given as goal

abbrev pub invariant-loop-point : goal.invariant-loop-point
invariant-loop-point l = hash_on l.hash (code_points_left l.point-iterator)
    ≡ hash_on l.fn.front (code_points_left l.fn.points)
