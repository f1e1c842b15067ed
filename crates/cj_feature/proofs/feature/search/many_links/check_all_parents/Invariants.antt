use Rattle.cj_feature.proofs.Common.{AreAnswered, FindsAll, [], chars, codes, length, members_left, members_of, members_source, source_of, tree, ◌≡◌}
use Rattle.cj_feature.proofs.Questions.{parents_and_part}
use Rattle.cj_feature.proofs.feature.search.many_links.check_all_parents.Given as goal

abbrev pub invariant-loop-name : goal.invariant-loop-name
invariant-loop-name g l = record {
  found : FindsAll (parents_and_part (members_of (tree l.objects))) l.found (members_left l.later) l.initial.found
      (members_of (tree l.objects));
  answered : AreAnswered (chars (codes "children")) l.objects [] l.questions;
  source : members_source l.later ≡ source_of l.objects;
}

abbrev pub decreases-loop-name : goal.decreases-loop-name
decreases-loop-name g l = length (members_left l.later)
