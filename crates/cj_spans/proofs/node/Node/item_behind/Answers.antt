use Rattle.cj_spans.proofs.Common.{refl, tree, line_of, source_of}
use Rattle.cj_spans.proofs.SourceWalks.{item_behind_link}
use Rattle.cj_spans.proofs.node.Node.item_behind.Goals as goal

pub invariant_of-result : goal.invariant_of-result
unfolding tree
invariant_of-result c =
    let n = c.args.self in
    let w = item_behind_link n.source n.index c.requires.0 n.known c.requires.1 c.requires.2 in
    record { known = w.inside }

pub returns : goal.returns
unfolding tree line_of source_of
returns c = record {
  tree =
      λ k few e.
      let n = c.args.self in
      let w = item_behind_link n.source n.index k n.known few e in
      (w.rest, w.first);
  line = refl;
  source = refl;
}
