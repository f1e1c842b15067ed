use Rattle.cj_feature.proofs.Common.{has_item, items_left, tree, ◌≡◌}
use Rattle.cj_feature.proofs.feature.links.has_item.Given as goal

abbrev pub invariant-loop-item : goal.invariant-loop-item
invariant-loop-item l =
    has_item (items_left l.item-iterator) (tree l.id) ≡ has_item (items_left l.initial.item-iterator) (tree l.id)
