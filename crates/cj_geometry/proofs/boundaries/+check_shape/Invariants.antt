use Rattle.cj_geometry.proofs.Common.{flat_map, items_left, least, shape, tree, ◌-◌, ◌≡◌}
use Rattle.cj_geometry.proofs.boundaries.+check_shape.Given as goal

abbrev pub decreases-check_shape : goal.decreases-check_shape
decreases-check_shape l = l.depth

abbrev pub invariant-loop-item : goal.invariant-loop-item
invariant-loop-item l =
    least l.found (flat_map (shape l.vertices.count (l.depth - 1)) (items_left l.item-iterator))
    ≡ least l.initial.found (shape l.vertices.count l.depth (tree l.node))
