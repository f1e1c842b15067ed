use Rattle.cj_feature.proofs.Common.{is_known, items_left, items_of, list_any, members_of, tree, ◌≡◌}
use Rattle.cj_feature.proofs.feature.links.has_known_item.Given as goal

abbrev pub invariant-loop-item : goal.invariant-loop-item
invariant-loop-item l = list_any (is_known (members_of (tree l.objects))) (items_left l.item-iterator)
    ≡ list_any (is_known (members_of (tree l.objects))) (items_of (tree l.array))
