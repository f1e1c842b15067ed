use Rattle.std.proofs.Common.{◌<◌, ◌-◌, length}
use Rattle.cj_feature.proofs.feature.search.questions.runs.run_on.Given as goal

abbrev pub invariant-loop-length : goal.invariant-loop-length
invariant-loop-length l = 0 < l.length

abbrev pub decreases-loop-length : goal.decreases-loop-length
decreases-loop-length l = length l.rest - l.length
