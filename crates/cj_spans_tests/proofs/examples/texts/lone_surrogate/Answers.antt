use Rattle.std.proofs.Common.{refl}
use Rattle.std.specs.Str.{chars}
use Rattle.cj_spans.specs.Meaning.Text.{text, code_points_after, first_code_point, first_width}
use Rattle.cj_spans_tests.proofs.examples.texts.lone_surrogate.Goals as goal

pub returns : goal.returns
unfolding text code_points_after first_code_point first_width chars
returns c = refl
