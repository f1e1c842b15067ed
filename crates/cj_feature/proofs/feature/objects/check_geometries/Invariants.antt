use Rattle.cj_feature.proofs.Common.{FindsAll, geometry, items_left, items_of, tree}
use Rattle.cj_geometry.specs.Given.{given}
use Rattle.cj_feature.proofs.feature.objects.check_geometries.Given as goal

abbrev pub invariant-loop-item : goal.invariant-loop-item
invariant-loop-item l = FindsAll (geometry l.vertices (given l.templates)) l.found (items_left l.item-iterator)
    l.initial.found (items_of (tree l.node))
