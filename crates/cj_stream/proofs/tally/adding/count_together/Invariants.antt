use Rattle.cj_stream.proofs.Common.{class_of, feature_header, feature_tree, geometries_left, given_to, lod, lod_classes, map, templates_of, ◌≡◌}
use Rattle.cj_stream.proofs.TallySinkLemmas.{Counting}
use Rattle.cj_stream.proofs.tally.adding.count_together.Given as goal

abbrev pub invariant-loop-geometry : goal.invariant-loop-geometry
invariant-loop-geometry l = record {
  templates : given_to l.lods ≡ templates_of (feature_header l.feature);
  counts : Counting 6 l.initial.counts (lod_classes (feature_header l.feature) (feature_tree l.feature)) l.counts
      (map (λ g. class_of (lod (templates_of (feature_header l.feature)) g)) (geometries_left l.geometry-iterator));
}
