use Rattle.cj_feature.proofs.Common.{FindsAll, items_left, items_of, number, tree}
use Rattle.cj_feature.proofs.header.rules.check_three_numbers.Given as goal

abbrev pub invariant-loop-item : goal.invariant-loop-item
invariant-loop-item l = FindsAll number l.found (items_left l.item-iterator) l.initial.found (items_of (tree l.node))
