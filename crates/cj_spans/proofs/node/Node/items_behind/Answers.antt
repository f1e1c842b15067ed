use Rattle.cj_spans.proofs.Common.{◌+◌, arith, tree, line_of, source_of, items_line, items_source, items_left, rules}
use Rattle.cj_spans.proofs.SourceWalks.{items_from_link, whole_later, items_behind_link}
use Rattle.cj_spans.proofs.node.Node.items_behind.Goals as goal

pub invariant_of-result : goal.invariant_of-result
unfolding tree
invariant_of-result c =
    let n = c.args.self in
    let w = items_from_link n.source n.index _ n.known c.after.ensures.link c.kind.ensures
    c.items_end-stop.ensures in
    record {
      whole = whole_later n.source (n.index + 1) (n.index + 1 + c.args.size) _
          (omega arith) w.whole;
    }

pub returns : goal.returns
unfolding tree items_left line_of items_line source_of items_source
returns c = search (rules, items_behind_link)
