use Rattle.cj_geometry.proofs.Common.{flat_map, items_left, items_of, least, number, tree, ◌≡◌}
use Rattle.cj_geometry.proofs.instance.check_matrix.Given as goal

abbrev pub invariant-loop-item : goal.invariant-loop-item
invariant-loop-item l = least l.found (flat_map (number) (items_left l.item-iterator))
    ≡ least l.initial.found (flat_map (number) (items_of (tree l.node)))
