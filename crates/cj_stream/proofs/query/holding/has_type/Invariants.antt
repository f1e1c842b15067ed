use Rattle.cj_stream.proofs.Common.{feature_tree, has_type, is_of_type, list_any, objects_left, types_of, ◌≡◌}
use Rattle.cj_stream.proofs.query.holding.has_type.Given as goal

abbrev pub invariant-loop-object : goal.invariant-loop-object
invariant-loop-object l =
    list_any (λ m. is_of_type (types_of l.types) m.1) (objects_left l.object-iterator)
    ≡ has_type (types_of l.types) (feature_tree l.feature)
