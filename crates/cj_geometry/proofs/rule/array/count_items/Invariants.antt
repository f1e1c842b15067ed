use Rattle.cj_geometry.proofs.Common.{items_left, items_of, length, tree, ◌+◌, ◌≡◌}
use Rattle.cj_geometry.proofs.rule.array.count_items.Given as goal

abbrev pub invariant-loop : goal.invariant-loop
invariant-loop l = l.count + length (items_left l.iterator') ≡ length (items_of (tree l.node))
