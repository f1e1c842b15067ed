use Rattle.std.proofs.Common.{◌≤◌, length}
use Rattle.cj_feature.proofs.feature.search.questions.gathering.note_ahead.Given as goal

abbrev pub invariant-loop-name : goal.invariant-loop-name
invariant-loop-name g l = l.count ≤ length l.questions
