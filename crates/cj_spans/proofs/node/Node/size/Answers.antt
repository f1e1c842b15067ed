use Rattle.cj_spans.proofs.Common.{arith, tree}
use Rattle.cj_spans.proofs.SourceWalks.{linked_size}
use Rattle.cj_spans.proofs.node.Node.size.Goals as goal

pub overflow_cast-result : goal.overflow_cast-result
overflow_cast-result c = let n = c.args.self in
    omega (arith, linked_size n.source n.index _ n.known c.after.ensures.link)

pub returns : goal.returns
unfolding tree
returns c = let n = c.args.self in omega (arith, linked_size n.source n.index _ n.known c.after.ensures.link)
