use Rattle.std.proofs.Common.{refl}
use Rattle.std.specs.Str.{chars}
use Rattle.cj_spans.specs.Meaning.Text.{text, code_points_after, first_code_point, first_width}
use Rattle.cj_geometry.proofs.Arrays.{index-zero, index-one}
use Rattle.cj_geometry_tests.proofs.examples.two_points_beside_one_vertex.Goals as goal

pub returns : goal.returns
unfolding text code_points_after first_code_point first_width chars
returns c = record {
  one = simp (index-zero, index-one) refl;
  unknown = simp (index-zero, index-one) refl;
}
