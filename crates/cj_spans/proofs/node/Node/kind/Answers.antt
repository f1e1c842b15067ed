use Rattle.cj_spans.proofs.Common.{tree, rules}
use Rattle.cj_spans.proofs.Views.{kind_shown}
use Rattle.cj_spans.proofs.node.Node.kind.Goals as goal

pub returns : goal.returns
unfolding tree
returns c = search (rules, kind_shown)
