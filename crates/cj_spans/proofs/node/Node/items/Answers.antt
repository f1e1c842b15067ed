use Rattle.cj_spans.proofs.Common.{tree}
use Rattle.cj_spans.proofs.SourceWalks.{items_from_link}
use Rattle.cj_spans.proofs.node.Node.items.Goals as goal

pub invariant_of-result : goal.invariant_of-result
unfolding tree
invariant_of-result c =
    let n = c.args.self in
    let w = items_from_link n.source n.index _ n.known c.after.ensures.link c.kind.ensures
    c.items_end-stop.ensures in
    record { whole = w.whole }
