use Rattle.cj_feature.specs.Shown.{parts_box}
use Rattle.cj_feature.proofs.header.Header.read.Goals as goal

pub returns : goal.returns
unfolding parts_box
returns c = record {
  of_tree = rw c.root.ensures.tree at c.read_parts.ensures.parts;
  for_box = c.read_parts.ensures.with_box;
}
