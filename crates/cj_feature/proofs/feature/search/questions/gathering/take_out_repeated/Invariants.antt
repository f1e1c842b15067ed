use Rattle.cj_feature.proofs.Common.{AreQuestionsInOrder, drop, length, take, ◌++◌, ◌≡◌, ◌≤◌}
use Rattle.cj_feature.proofs.feature.search.questions.gathering.take_out_repeated.Given as goal

-- those that are kept and those to come stand in order
abbrev pub invariant-loop-i : goal.invariant-loop-i
invariant-loop-i l = record {
  few : l.kept ≤ l.i;
  length : length l.questions ≡ length l.initial.questions;
  order : AreQuestionsInOrder l.objects l.initial.questions
      → AreQuestionsInOrder l.objects (take l.kept l.questions ++ drop l.i l.questions);
}
