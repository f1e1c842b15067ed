use Rattle.std.proofs.Common.{refl}
use Rattle.cj_spans.specs.Forest.{forest}
use Rattle.cj_feature_tests.proofs.examples.trees_of_headers.Goals as goal

pub returns : goal.returns
unfolding forest
returns c = record {
  bare = refl;
  plain = refl;
  other_type = refl;
  other_version = refl;
  more_digits = refl;
  no_scale = refl;
  two_scales = refl;
  with_objects = refl;
  with_vertices = refl;
}
