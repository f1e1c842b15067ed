use Rattle.std.proofs.Common.{refl}
use Rattle.cj_spans.specs.Forest.{forest}
use Rattle.cj_geometry_tests.proofs.examples.solids_of_their_lines.Goals as goal

pub returns : goal.returns
unfolding forest
returns c = record {
  null_whole = refl;
  null_shell = refl;
  null_surface = refl;
  no_shell = refl;
  one_surface = refl;
  past_surfaces = refl;
}
