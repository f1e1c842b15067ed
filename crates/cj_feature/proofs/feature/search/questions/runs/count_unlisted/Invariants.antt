use Rattle.std.proofs.Common.{◌≤◌}
use Rattle.cj_feature.proofs.feature.search.questions.runs.count_unlisted.Given as goal

abbrev pub invariant-loop-flag : goal.invariant-loop-flag
invariant-loop-flag l = l.count ≤ l.flag-index
