use Rattle.cj_spans.proofs.Common.{◌≡◌, length, compare, code_points_left}
use Rattle.cj_spans.proofs.text.compare.compare_points.Given as goal

abbrev pub invariant-loop-point : goal.invariant-loop-point
invariant-loop-point l = compare (code_points_left l.left) (code_points_left l.right)
    ≡ compare (code_points_left l.fn.points) (code_points_left l.fn.others)

abbrev pub decreases-loop-point : goal.decreases-loop-point
decreases-loop-point l = length (code_points_left l.left)
