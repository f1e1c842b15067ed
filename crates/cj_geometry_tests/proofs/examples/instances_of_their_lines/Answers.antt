use Rattle.std.proofs.Common.{refl}
use Rattle.cj_spans.specs.Forest.{forest}
use Rattle.cj_geometry_tests.proofs.examples.instances_of_their_lines.Goals as goal

pub returns : goal.returns
unfolding forest
returns c = record {
  templates = refl;
  complete = refl;
  short = refl;
  long = refl;
  negative = refl;
  past = refl;
}
