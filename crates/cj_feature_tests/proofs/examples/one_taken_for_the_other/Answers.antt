use Rattle.std.proofs.Common.{refl}
use Rattle.std.specs.Str.{chars}
use Rattle.cj_spans.specs.Meaning.Text.{text, code_points_after, first_code_point, first_width}
use Rattle.cj_geometry.specs.Meaning.ObjectTypes.{object_types}
use Rattle.cj_feature_tests.proofs.examples.one_taken_for_the_other.Goals as goal

pub returns : goal.returns
unfolding text code_points_after first_code_point first_width chars object_types
returns c = record {
  feature = refl;
  header = refl;
}
