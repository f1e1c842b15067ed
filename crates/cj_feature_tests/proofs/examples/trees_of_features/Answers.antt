use Rattle.std.proofs.Common.{refl}
use Rattle.cj_spans.specs.Forest.{forest}
use Rattle.cj_feature_tests.proofs.examples.trees_of_features.Goals as goal

pub returns : goal.returns
unfolding forest
returns c = record {
  itself = refl;
  lost_child = refl;
  unlisted_parent = refl;
  null_children = refl;
  lost_parent = refl;
  unlisted_part = refl;
  part_alone = refl;
  part_of_other = refl;
  part_of_none = refl;
  part_of_number = refl;
  group = refl;
  unlisted_member = refl;
  doubled = refl;
  escaped = refl;
  same_by_escape = refl;
  unread_names = refl;
  no_object = refl;
  child_no_object = refl;
  other_id = refl;
  unlisted_group = refl;
  group_of_other = refl;
  part_of_no_object = refl;
  no_objects = refl;
  shed = refl;
  extension = refl;
  by_escape = refl;
  with_parent = refl;
  with_child = refl;
  chain = refl;
  part_apart = refl;
  main_part = refl;
  number_apart = refl;
}
