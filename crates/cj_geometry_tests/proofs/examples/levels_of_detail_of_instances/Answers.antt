use Rattle.std.proofs.Common.{refl}
use Rattle.std.specs.Str.{chars}
use Rattle.cj_spans.specs.Meaning.Text.{text, code_points_after, first_code_point, first_width}
use Rattle.cj_geometry.proofs.Arrays.{whole-zero, whole-one}
use Rattle.cj_geometry_tests.proofs.examples.levels_of_detail_of_instances.Goals as goal

pub returns : goal.returns
unfolding text code_points_after first_code_point first_width chars
returns c = record {
  listed = simp whole-zero refl;
  past = simp whole-one refl;
  none = refl;
}
