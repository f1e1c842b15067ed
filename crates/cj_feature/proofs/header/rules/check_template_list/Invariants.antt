use Rattle.cj_feature.proofs.Common.{FindsAll, geometry, items_left, items_of, tree}
use Rattle.cj_geometry.specs.Meaning.Geometry.{itself}
use Rattle.cj_feature.proofs.header.rules.check_template_list.Given as goal

abbrev pub invariant-loop-item : goal.invariant-loop-item
invariant-loop-item l = FindsAll (geometry l.vertices itself) l.found (items_left l.item-iterator) l.initial.found
    (items_of (tree l.node))
