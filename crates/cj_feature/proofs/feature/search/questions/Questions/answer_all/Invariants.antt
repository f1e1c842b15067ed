use Rattle.cj_feature.proofs.Common.{AreAnswered, Tree, chars, length, lists, members_left, members_of, tree, true, ◌≡◌}
use Rattle.cj_feature.proofs.feature.search.questions.Questions.answer_all.Given as goal

-- what the city objects that are left list, all list
abbrev pub invariant-loop-name : goal.invariant-loop-name
invariant-loop-name g l = record {
  answered : AreAnswered (chars l.list) l.objects (members_left l.later) l.self;
  left : (from to : Tree) → lists (chars l.list) (members_left l.later) from to ≡ true
      → lists (chars l.list) (members_of (tree l.objects)) from to ≡ true;
}

abbrev pub decreases-loop-name : goal.decreases-loop-name
decreases-loop-name g l = length (members_left l.later)
