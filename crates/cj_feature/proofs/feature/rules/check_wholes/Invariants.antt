use Rattle.cj_feature.proofs.Common.{FindsAll, items_left, items_of, length, tree, whole_number, ◌+◌, ◌≡◌}
use Rattle.cj_feature.proofs.feature.rules.check_wholes.Given as goal

abbrev pub invariant-loop-item : goal.invariant-loop-item
invariant-loop-item l =
    (l.count + length (items_left l.item-iterator) ≡ length (items_of (tree l.node)))
    × (FindsAll whole_number l.found (items_left l.item-iterator) l.initial.found (items_of (tree l.node)))
