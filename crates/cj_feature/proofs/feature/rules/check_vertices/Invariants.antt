use Rattle.cj_feature.proofs.Common.{FindsAll, NotThree, items_left, items_of, length, of_length, tree, whole_number, ◌+◌, ◌≡◌}
use Rattle.cj_feature.proofs.feature.rules.check_vertices.Given as goal

abbrev pub invariant-loop-item : goal.invariant-loop-item
invariant-loop-item l =
    (l.count + length (items_left l.item-iterator) ≡ length (items_of (tree l.node)))
    × (FindsAll (of_length NotThree 3 whole_number) l.found (items_left l.item-iterator) l.initial.found
    (items_of (tree l.node)))
