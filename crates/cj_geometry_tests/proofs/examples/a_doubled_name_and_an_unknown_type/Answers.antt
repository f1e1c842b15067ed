use Rattle.std.proofs.Common.{refl}
use Rattle.std.specs.Str.{chars}
use Rattle.cj_spans.specs.Meaning.Text.{text, code_points_after, first_code_point, first_width}
use Rattle.cj_geometry_tests.proofs.examples.a_doubled_name_and_an_unknown_type.Goals as goal

pub returns : goal.returns
unfolding text code_points_after first_code_point first_width chars
returns c = record { all = refl; least = refl }
