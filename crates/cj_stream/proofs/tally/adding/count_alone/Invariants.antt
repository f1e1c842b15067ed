use Rattle.cj_stream.proofs.Common.{feature_tree, flat_map, geometries_left, object_geometries, objects_of, own_classes}
use Rattle.cj_stream.proofs.TallySinkLemmas.{Counting}
use Rattle.cj_stream.proofs.tally.adding.count_alone.Given as goal

abbrev pub invariant-loop-geometry : goal.invariant-loop-geometry
invariant-loop-geometry l =
    Counting 6 l.initial.counts (own_classes (flat_map object_geometries (objects_of (feature_tree l.feature))))
    l.counts (own_classes (geometries_left l.geometry-iterator))
