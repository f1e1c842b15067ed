use Rattle.std.proofs.Common.{refl}
use Rattle.std.specs.Str.{chars}
use Rattle.cj_spans.specs.Meaning.Text.{text, code_points_after, first_code_point, first_width}
use Rattle.cj_geometry.proofs.Arrays.{number-zero, number-one}
use Rattle.cj_feature_tests.proofs.examples.types_and_versions.Goals as goal

pub returns : goal.returns
unfolding text code_points_after first_code_point first_width chars
returns c = record {
  plain = simp (number-zero, number-one) refl;
  other_type = simp (number-zero, number-one) refl;
  other_version = simp (number-zero, number-one) refl;
  more_digits = simp (number-zero, number-one) refl;
}
