use Rattle.cj_spans.proofs.Common.{tree}
use Rattle.cj_spans.proofs.SourceWalks.{members_from_link}
use Rattle.cj_spans.proofs.node.Node.walk.Goals as goal

pub invariant_of-result : goal.invariant_of-result
unfolding tree
invariant_of-result c =
    let n = c.args.self in
    let w = members_from_link n.source n.index _ n.known c.after.ensures.link c.kind.ensures
    c.members_end-stop.ensures in
    record { whole = w.whole; named = w.named }
