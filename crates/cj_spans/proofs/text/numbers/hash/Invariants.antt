use Rattle.cj_spans.proofs.Common.{◌≡◌, ◌-◌, length, code_points_from, code_points_left, hash_on}
use Rattle.cj_spans.proofs.text.numbers.hash.Given as goal

abbrev pub invariant-loop-place : goal.invariant-loop-place
invariant-loop-place l = hash_on l.hash (code_points_from l.fn.points.bytes.now l.place)
    ≡ hash_on 0 (code_points_left l.fn.points)

abbrev pub decreases-loop-place : goal.decreases-loop-place
decreases-loop-place l = length l.fn.points.bytes.now - l.place
