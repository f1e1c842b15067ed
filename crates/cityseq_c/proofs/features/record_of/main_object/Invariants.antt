use Rattle.cityseq_c.proofs.Common.{List, Some, feature_line, feature_tree, first_named, main_object, objects_left, objects_line, text_of, tree, ℕ, ◌≡◌}
use Rattle.cityseq_c.proofs.features.record_of.main_object.Given as goal

abbrev pub invariant-loop-object : goal.invariant-loop-object
invariant-loop-object l = record {
  main : (x : List ℕ) → text_of (tree l.id) ≡ Some x
      → first_named x (objects_left l.object-iterator) ≡ main_object (feature_tree l.feature);
  line : objects_line l.object-iterator ≡ feature_line l.feature;
}
