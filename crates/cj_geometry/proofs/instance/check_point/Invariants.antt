use Rattle.cj_geometry.proofs.Common.{VertexIndex, flat_map, index, items_left, items_of, least, tree, ◌≡◌}
use Rattle.cj_geometry.proofs.instance.check_point.Given as goal

abbrev pub invariant-loop-item : goal.invariant-loop-item
invariant-loop-item l = least l.found (flat_map (index VertexIndex l.vertices) (items_left l.item-iterator))
    ≡ least l.initial.found (flat_map (index VertexIndex l.vertices) (items_of (tree l.node)))
