use Rattle.cj_feature.proofs.Common.{AreAnswered, FindsAll, [], back_of, is_known, items_left, length, linked, list_any, members_of, noted_in, tree, true, ◌≡◌}
use Rattle.cj_feature.proofs.feature.search.many_links.check_items.Given as goal

abbrev pub invariant-loop-item : goal.invariant-loop-item
invariant-loop-item g l = record {
  found : FindsAll (linked l.link (members_of (tree l.objects)) (noted_in l.objects l.name)) l.found
      (items_left l.items) l.initial.found (items_left l.list.items);
  known : l.known ≡ true → list_any (is_known (members_of (tree l.objects))) (items_left l.list.items) ≡ true;
  later : list_any (is_known (members_of (tree l.objects))) (items_left l.items) ≡ true
      → list_any (is_known (members_of (tree l.objects))) (items_left l.list.items) ≡ true;
  answered : AreAnswered (back_of l.link) l.objects [] l.questions;
}

abbrev pub decreases-loop-item : goal.decreases-loop-item
decreases-loop-item g l = length (items_left l.items)
