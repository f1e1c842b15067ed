use Rattle.std.proofs.Common.{refl}
use Rattle.cj_spans.specs.Forest.{forest}
use Rattle.cj_geometry_tests.proofs.examples.trees_of_their_lines.Goals as goal

pub returns : goal.returns
unfolding forest
returns c = record {
  points = refl;
  three = refl;
  nothing = refl;
  cone = refl;
  instance = refl;
  doubled = refl;
}
