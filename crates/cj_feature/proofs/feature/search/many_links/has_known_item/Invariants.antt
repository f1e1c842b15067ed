use Rattle.cj_feature.proofs.Common.{AreAnswered, [], chars, codes, is_known, items_left, items_of, length, list_any, members_of, tree, ◌≡◌}
use Rattle.cj_feature.proofs.feature.search.many_links.has_known_item.Given as goal

abbrev pub invariant-loop-item : goal.invariant-loop-item
invariant-loop-item g l = record {
  known : list_any (is_known (members_of (tree l.objects))) (items_left l.items)
      ≡ list_any (is_known (members_of (tree l.objects))) (items_of (tree l.array));
  answered : AreAnswered (chars (codes "children")) l.objects [] l.questions;
}

abbrev pub decreases-loop-item : goal.decreases-loop-item
decreases-loop-item g l = length (items_left l.items)
