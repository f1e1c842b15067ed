use Rattle.cj_geometry.proofs.Common.{AreLone, [], drop, entry, flat_map, items_left, items_of, length, take, total_size, tree, ◌<◌, ◌^◌, ◌≡◌}
use Rattle.cj_geometry.proofs.semantics.count_entries.Given as goal

abbrev pub invariant-loop-item : goal.invariant-loop-item
invariant-loop-item l = record {
  left : items_left l.items ≡ drop l.front (items_of (tree l.node));
  lone : AreLone l.front (items_of (tree l.node));
  none : flat_map (entry l.surfaces.count) (take l.front (items_of (tree l.node))) ≡ [];
  few : length (items_of (tree l.node)) < 2 ^ 63;
  small : total_size (items_of (tree l.node)) < 2 ^ 31;
}

abbrev pub decreases-loop-item : goal.decreases-loop-item
decreases-loop-item l = length (items_left l.items)
