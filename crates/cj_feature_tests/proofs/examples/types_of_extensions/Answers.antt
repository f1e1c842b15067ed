use Rattle.std.proofs.Common.{refl}
use Rattle.std.specs.Str.{chars}
use Rattle.cj_spans.specs.Meaning.Text.{text, code_points_after, first_code_point, first_width}
use Rattle.cj_geometry.specs.Meaning.ObjectTypes.{object_types}
use Rattle.cj_feature_tests.proofs.examples.types_of_extensions.Goals as goal

pub returns : goal.returns
unfolding text code_points_after first_code_point first_width chars object_types
returns c = record {
  unknown = refl;
  known = refl;
  escaped = refl;
  parent = refl;
  child = refl;
  other = refl;
}
