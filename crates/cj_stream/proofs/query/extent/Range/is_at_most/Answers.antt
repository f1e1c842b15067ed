use Rattle.std.proofs.Common.{◌∙◌, sym}
use Rattle.cj_stream.proofs.BoxLemmas.{at_most_said, or_second}
use Rattle.cj_stream.proofs.query.extent.Range.is_at_most.Goals as goal

pub returns-else-is_le : goal.returns-else-is_le
returns-else-is_le c =
    let said = at_most_said _ in
    or_second _ _ _ _ (sym (said c.args.self.least c.args.end c.compare.result c.requires.least
    c.compare.ensures.order) ∙ sym c.is_le.ensures) c.if-is_le.false (c.is_le-else-is_le.ensures
    ∙ said c.args.self.greatest c.args.end c.compare-else-is_le.result c.requires.greatest
    c.compare-else-is_le.ensures.order)
