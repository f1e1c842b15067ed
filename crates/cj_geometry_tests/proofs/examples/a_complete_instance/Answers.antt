use Rattle.std.proofs.Common.{refl}
use Rattle.std.specs.Str.{chars}
use Rattle.cj_spans.specs.Meaning.Text.{text, code_points_after, first_code_point, first_width}
use Rattle.cj_geometry.proofs.Arrays.{index-zero, number-zero, number-one}
use Rattle.cj_geometry_tests.proofs.examples.a_complete_instance.Goals as goal

pub returns : goal.returns
unfolding text code_points_after first_code_point first_width chars
returns c = simp (index-zero, number-zero, number-one) refl
