use Rattle.cj_feature.proofs.Common.{drop, items_left, items_of, tree, ◌≡◌}
use Rattle.cj_feature.proofs.feature.coordinates.read_coordinate.Given as goal

abbrev pub invariant-loop : goal.invariant-loop
invariant-loop l = items_left l.items ≡ drop l.counter (items_of (tree l.node))
