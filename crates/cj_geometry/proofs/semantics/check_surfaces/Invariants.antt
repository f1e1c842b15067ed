use Rattle.cj_geometry.proofs.Common.{flat_map, items_left, items_of, least, surface, tree, ◌≡◌}
use Rattle.cj_geometry.proofs.semantics.check_surfaces.Given as goal

abbrev pub invariant-loop-item : goal.invariant-loop-item
invariant-loop-item l = least l.found (flat_map surface (items_left l.item-iterator))
    ≡ least l.initial.found (flat_map surface (items_of (tree l.node)))
