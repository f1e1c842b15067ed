use Rattle.std.proofs.Common.{refl}
use Rattle.std.specs.Str.{chars}
use Rattle.cj_spans.specs.Meaning.Text.{text, code_points_after, first_code_point, first_width}
use Rattle.cj_spans_tests.proofs.examples.views.first_of_a_name.Goals as goal

pub returns-clause-first : goal.returns-clause-first
unfolding text code_points_after first_code_point first_width chars
returns-clause-first c = refl

pub returns-clause-spelled : goal.returns-clause-spelled
unfolding text code_points_after first_code_point first_width chars
returns-clause-spelled c = refl

pub returns-clause-none : goal.returns-clause-none
unfolding text code_points_after first_code_point first_width chars
returns-clause-none c = refl
