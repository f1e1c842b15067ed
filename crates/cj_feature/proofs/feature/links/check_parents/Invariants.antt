use Rattle.cj_feature.proofs.Common.{FindsAll, items_left, members_of, parent, tree}
use Rattle.cj_feature.proofs.feature.links.check_parents.Given as goal

abbrev pub invariant-loop-item : goal.invariant-loop-item
invariant-loop-item l =
    FindsAll (parent (members_of (tree l.objects)) (tree l.name)) l.found (items_left l.item-iterator) l.initial.found
    (items_left l.initial.item-iterator)
