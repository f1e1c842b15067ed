use Rattle.cj_stream.proofs.Common.{YieldsList-end}
use Rattle.cj_stream.proofs.LineLemmas.{items-split}
use Rattle.cj_stream.proofs.query.Query.set_lods.Goals as goal

pub returns-clause-ok : goal.returns-clause-ok
returns-clause-ok c =
    let split = c.split-lod-items.ensures in
    let texts =
    items-split c.args.separator c.args.list.now c.requires split.text split.has_more split.pattern
    c.into_iter-lod-iterator.ensures.into_iter_gives in
    let all = YieldsList-end texts c.loop-lod.yielded _ c.loop-lod.yielded_by _ _ c.in-None.is c.next.ensures.steps in
    rw all.0 at c.loop-lod.invariant.asks
