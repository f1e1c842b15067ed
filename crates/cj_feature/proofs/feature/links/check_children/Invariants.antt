use Rattle.cj_feature.proofs.Common.{FindsAll, items_left, members_of, tree}
use Rattle.cj_feature.specs.Meaning.Links.{child}
use Rattle.cj_feature.proofs.feature.links.check_children.Given as goal

abbrev pub invariant-loop-item : goal.invariant-loop-item
invariant-loop-item l =
    FindsAll (child (members_of (tree l.objects)) (tree l.name)) l.found (items_left l.item-iterator) l.initial.found
    (items_left l.initial.item-iterator)
