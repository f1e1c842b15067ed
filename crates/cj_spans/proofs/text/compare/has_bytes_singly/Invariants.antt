use Rattle.cj_spans.proofs.Common.{◌≡◌, ◌+◌, ◌-◌, length, are_same, left, code_points_from}
use Rattle.cj_spans.proofs.text.compare.has_bytes_singly.Given as goal

abbrev pub invariant-loop-count : goal.invariant-loop-count
invariant-loop-count l = are_same (code_points_from l.body (l.count + 1)) (left l.characters l.count)
    ≡ are_same (code_points_from l.body 1) (left l.characters 0)

abbrev pub decreases-loop-count : goal.decreases-loop-count
decreases-loop-count l = length l.characters - l.count
