use Rattle.std.proofs.Common.{refl}
use Rattle.std.specs.Str.{chars}
use Rattle.cj_spans.specs.Meaning.Text.{text, code_points_after, first_code_point, first_width}
use Rattle.cj_geometry_tests.proofs.examples.forms_of_the_types.Goals as goal

pub returns : goal.returns
unfolding text code_points_after first_code_point first_width chars
returns c = record {
  points = refl;
  lines = refl;
  surfaces = refl;
  surface = refl;
  solid = refl;
  solids = refl;
  composite = refl;
  instance = refl;
  escaped = refl;
}
