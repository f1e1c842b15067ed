use Rattle.std.proofs.Common.{refl}
use Rattle.std.specs.Str.{chars}
use Rattle.cj_spans.specs.Meaning.Text.{text, code_points_after, first_code_point, first_width}
use Rattle.cj_geometry.proofs.Arrays.{index-zero, index-one, index-minus_one, number-zero, number-one}
use Rattle.cj_geometry_tests.proofs.examples.what_an_instance_needs.Goals as goal

pub returns : goal.returns
unfolding text code_points_after first_code_point first_width chars
returns c = record {
  short = simp (index-zero, number-zero, number-one) refl;
  long = simp (index-zero, number-zero, number-one) refl;
  negative = simp (index-zero, index-minus_one, number-zero, number-one) refl;
  past = simp (index-zero, index-one, number-zero, number-one) refl;
  none = simp (index-zero, number-zero, number-one) refl;
  template = refl;
}
