use Rattle.cj_geometry.proofs.Common.{entry, flat_map, items_left, items_of, least, length, tree, ◌+◌, ◌≡◌}
use Rattle.cj_geometry.proofs.semantics.check_entries.Given as goal

abbrev pub invariant-loop-item : goal.invariant-loop-item
invariant-loop-item l = record {
  found : least l.found (flat_map (entry l.surfaces.count) (items_left l.item-iterator))
      ≡ least l.initial.found (flat_map (entry l.surfaces.count) (items_of (tree l.node)));
  count : l.count + length (items_left l.item-iterator) ≡ length (items_of (tree l.node));
}
