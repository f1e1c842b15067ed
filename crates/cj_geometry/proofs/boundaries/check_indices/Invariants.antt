use Rattle.cj_geometry.proofs.Common.{flat_map, items_left, items_of, least, shape, tree, ◌≡◌}
use Rattle.cj_geometry.proofs.boundaries.check_indices.Given as goal

abbrev pub invariant-loop-item : goal.invariant-loop-item
invariant-loop-item l =
    least l.found (flat_map (shape l.vertices.count 0) (items_left l.item-iterator))
    ≡ least l.initial.found (flat_map (shape l.vertices.count 0) (items_of (tree l.node)))
