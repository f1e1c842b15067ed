use Rattle.cj_geometry.proofs.Common.{AreLone, Reason, [], drop, flat_map, index, items_left, items_of, length, take, total_size, tree, ◌<◌, ◌^◌, ◌≡◌}
use Rattle.cj_geometry.proofs.rule.number.count_indices.Given as goal

abbrev pub invariant-loop-item : goal.invariant-loop-item
invariant-loop-item l = record {
  left : items_left l.items ≡ drop l.front (items_of (tree l.node));
  lone : AreLone l.front (items_of (tree l.node));
  none : ((outside : Reason) → flat_map (index outside l.bound.count) (take l.front (items_of (tree l.node))) ≡ []);
  small : total_size (items_of (tree l.node)) < 2 ^ 31;
}

abbrev pub decreases-loop-item : goal.decreases-loop-item
decreases-loop-item l = length (items_left l.items)
