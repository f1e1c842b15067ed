use Rattle.std.proofs.Common.{refl}
use Rattle.std.specs.Str.{chars}
use Rattle.cj_spans.specs.Meaning.Text.{text, code_points_after, first_code_point, first_width}
use Rattle.cj_geometry.specs.Meaning.ObjectTypes.{object_types}
use Rattle.cj_feature.specs.Meaning.Reached.{reached_from, is_reached}
use Rattle.cj_feature_tests.proofs.examples.city_objects_that_are_not_reached.Goals as goal

pub returns : goal.returns
unfolding text code_points_after first_code_point first_width chars object_types reached_from is_reached
returns c = record {
  chain = refl;
  apart = refl;
  main_part = refl;
  unasked = refl;
  unasked_part = refl;
}
