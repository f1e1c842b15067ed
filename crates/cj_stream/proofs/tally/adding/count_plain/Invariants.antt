use Rattle.cj_stream.proofs.Common.{feature_tree, flat_map, map, object_geometries, objects_left, objects_of, own_classes, row_number, type_numbers, type_row}
use Rattle.cj_stream.proofs.TallySinkLemmas.{Counting}
use Rattle.cj_stream.proofs.tally.adding.count_plain.Given as goal

abbrev pub invariant-loop-object : goal.invariant-loop-object
invariant-loop-object l = record {
  types : Counting 34 l.initial.types (type_numbers (feature_tree l.feature)) l.types
      (map (λ m. row_number (type_row m.1)) (objects_left l.object-iterator));
  lods : Counting 6 l.initial.lods (own_classes (flat_map object_geometries (objects_of (feature_tree l.feature))))
      l.lods (own_classes (flat_map object_geometries (objects_left l.object-iterator)));
}
