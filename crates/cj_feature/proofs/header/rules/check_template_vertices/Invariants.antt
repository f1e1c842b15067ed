use Rattle.cj_feature.proofs.Common.{FindsAll, NotThree, items_left, items_of, number, of_length, tree}
use Rattle.cj_feature.proofs.header.rules.check_template_vertices.Given as goal

abbrev pub invariant-loop-item : goal.invariant-loop-item
invariant-loop-item l = FindsAll (of_length NotThree 3 number) l.found (items_left l.item-iterator) l.initial.found
    (items_of (tree l.node))
