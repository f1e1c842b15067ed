use Rattle.cj_feature.proofs.Common.{has_box, header_tree}
use Rattle.cj_feature.specs.Shown.{parts_box}
use Rattle.cj_feature.proofs.header.Header.parts.Goals as goal

pub returns-in-Some-clause-parts : goal.returns-in-Some-clause-parts
unfolding header_tree
returns-in-Some-clause-parts c = (c.args.self.now.known c.in-Some.parts c.in-Some.is).of_tree

pub returns-in-Some-clause-with_box : goal.returns-in-Some-clause-with_box
unfolding has_box parts_box
returns-in-Some-clause-with_box c = (c.args.self.now.known c.in-Some.parts c.in-Some.is).for_box
