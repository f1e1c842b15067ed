use Rattle.std.proofs.Common.{refl}
use Rattle.std.specs.Str.{chars}
use Rattle.cj_spans.specs.Meaning.Text.{text, code_points_after, first_code_point, first_width}
use Rattle.cj_geometry.proofs.Arrays.{number-zero, number-one}
use Rattle.cj_feature_tests.proofs.examples.parts_of_a_header.Goals as goal

pub returns : goal.returns
unfolding text code_points_after first_code_point first_width chars
returns c = record {
  no_scale = simp (number-zero, number-one) refl;
  two_scales = simp (number-zero, number-one) refl;
  with_objects = simp (number-zero, number-one) refl;
  with_vertices = simp (number-zero, number-one) refl;
}
