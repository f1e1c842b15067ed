use Rattle.cj_feature.proofs.Common.{has_box, header_tree}
use Rattle.cj_feature.proofs.Typed.{if-there}
use Rattle.cj_feature.proofs.header.Header.affine.Goals as goal

pub returns-in-Some-clause-maps : goal.returns-in-Some-clause-maps
unfolding header_tree has_box
returns-in-Some-clause-maps c =
    let known = c.args.self.now.known c.in-Some.parts c.in-Some.is in
    rw known.for_box at known.of_tree.maps

pub returns-in-Some-clause-there : goal.returns-in-Some-clause-there
unfolding header_tree
returns-in-Some-clause-there c =
    if-there _ c.in-Some.parts.now (c.args.self.now.known c.in-Some.parts c.in-Some.is).of_tree

pub returns-in-None-clause-there : goal.returns-in-None-clause-there
unfolding header_tree
returns-in-None-clause-there c = if-there _ c.read.result c.read.ensures.of_tree
