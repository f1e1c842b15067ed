use Rattle.cityseq_c.proofs.Common.{capped, feature_tree, length, map, objects_left, objects_of, row_number, type_numbers, type_row, ◌+◌, ◌<◌, ◌^◌, ◌≡◌}
use Rattle.cityseq_c.proofs.QueryLemmas.{Marking}
use Rattle.cityseq_c.proofs.features.record_of.tally_objects.Given as goal

abbrev pub invariant-loop-object : goal.invariant-loop-object
invariant-loop-object l = record {
  few : l.count < 2 ^ 64;
  counted : capped (l.count + length (objects_left l.object-iterator))
      ≡ capped (length (objects_of (feature_tree l.feature)));
  marked : Marking 34 (type_numbers (feature_tree l.feature)) l.types
      (map (λ m. row_number (type_row m.1)) (objects_left l.object-iterator));
}
