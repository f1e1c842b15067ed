use Rattle.cj_geometry.proofs.Common.{AreLone, [], drop, flat_map, items_left, items_of, length, take, total_size, tree, whole_number, ◌<◌, ◌^◌, ◌≡◌}
use Rattle.cj_geometry.proofs.rule.number.count_wholes.Given as goal

abbrev pub invariant-loop-item : goal.invariant-loop-item
invariant-loop-item l = record {
  left : items_left l.items ≡ drop l.front (items_of (tree l.node));
  lone : AreLone l.front (items_of (tree l.node));
  none : (flat_map whole_number (take l.front (items_of (tree l.node))) ≡ []);
  small : total_size (items_of (tree l.node)) < 2 ^ 31;
}

abbrev pub decreases-loop-item : goal.decreases-loop-item
decreases-loop-item l = length (items_left l.items)
