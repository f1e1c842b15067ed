use Rattle.cj_spans.proofs.Common.{◌-◌, StartAlike}
use Rattle.cj_spans.proofs.text.compare.count_alike_singly.Given as goal

abbrev pub invariant-loop-count : goal.invariant-loop-count
invariant-loop-count l = StartAlike l.bytes l.place l.others l.other_place l.count

abbrev pub decreases-loop-count : goal.decreases-loop-count
decreases-loop-count l = l.room - l.count
