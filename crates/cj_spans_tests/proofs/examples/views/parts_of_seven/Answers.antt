use Rattle.std.proofs.Common.{refl}
use Rattle.std.specs.Str.{chars}
use Rattle.cj_spans.specs.Forest.{forest}
use Rattle.cj_spans.specs.Meaning.Text.{text, code_points_after, first_code_point, first_width}
use Rattle.cj_spans_tests.proofs.examples.views.parts_of_seven.Goals as goal

pub returns-clause-first : goal.returns-clause-first
unfolding text code_points_after first_code_point first_width chars
returns-clause-first c = refl

pub returns-clause-shown : goal.returns-clause-shown
unfolding forest
returns-clause-shown c = refl
