use Rattle.cj_stream.proofs.Common.{feature_tree, map, objects_left, row_number, type_numbers, type_row}
use Rattle.cj_stream.proofs.TallySinkLemmas.{Counting}
use Rattle.cj_stream.proofs.tally.adding.count_types.Given as goal

abbrev pub invariant-loop-object : goal.invariant-loop-object
invariant-loop-object l =
    Counting 34 l.initial.counts (type_numbers (feature_tree l.feature)) l.counts
    (map (λ m. row_number (type_row m.1)) (objects_left l.object-iterator))
