use Rattle.std.proofs.Common.{arith, ◌∙◌}
use Rattle.cityseq_c.proofs.QueryLemmas.{is-text}
use Rattle.cityseq_c.proofs.RoomLemmas.{edge-kept, number-read}
use Rattle.cityseq_c.proofs.fault_place.ItemRule.is_kept.Goals as goal

pub returns-in-Utf8 : goal.returns-in-Utf8
returns-in-Utf8 c = rw c.in-Utf8.is (c.is_ok.ensures.value ∙ is-text _ c.args.item.now _ c.from_utf8.ensures.cases)

pub returns-in-Number : goal.returns-in-Number
returns-in-Number c =
    grind (arith, number-read)

pub returns-in-Edge : goal.returns-in-Edge
returns-in-Edge c =
    rw c.in-Edge.is (c.is_some.ensures ∙ edge-kept c.args.item.now c.edge_of.result c.edge_of.ensures)
