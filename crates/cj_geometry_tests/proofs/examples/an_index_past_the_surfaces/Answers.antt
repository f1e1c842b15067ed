use Rattle.std.proofs.Common.{refl}
use Rattle.std.specs.Str.{chars}
use Rattle.cj_spans.specs.Meaning.Text.{text, code_points_after, first_code_point, first_width}
use Rattle.cj_geometry.proofs.Arrays.{index-zero, index-one, index-two}
use Rattle.cj_geometry_tests.proofs.examples.an_index_past_the_surfaces.Goals as goal

pub returns : goal.returns
unfolding text code_points_after first_code_point first_width chars
returns c = simp (index-zero, index-one, index-two) refl
