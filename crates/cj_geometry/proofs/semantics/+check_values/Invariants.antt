use Rattle.cj_geometry.proofs.Common.{items_if, items_left, items_of, least, left_of, length, nat_eq, option_map, paired, tree, values, ◌&&◌, ◌-◌, ◌≡◌}
use Rattle.cj_geometry.proofs.semantics.+check_values.Given as goal

abbrev pub decreases-check_values : goal.decreases-check_values
decreases-check_values l = l.depth

abbrev pub invariant-loop-item : goal.invariant-loop-item
invariant-loop-item l = record {
  found : least l.found (paired (values l.surfaces.count (l.depth - 1)) (items_left l.item-iterator) (left_of l.parts))
      ≡ least l.initial.found (paired (values l.surfaces.count (l.depth - 1)) (items_left l.initial.item-iterator)
      (left_of l.initial.parts));
  even : l.even && nat_eq (length (items_left l.item-iterator)) (length (left_of l.parts))
      ≡ nat_eq (length (items_of (tree l.node))) (length (items_if (option_map tree l.part)));
}
