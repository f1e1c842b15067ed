use Rattle.std.proofs.Common.{◌∙◌, sym}
use Rattle.cj_stream.proofs.BoxLemmas.{at_least_said, or_second}
use Rattle.cj_stream.proofs.query.extent.Range.is_at_least.Goals as goal

pub returns-else-is_ge : goal.returns-else-is_ge
returns-else-is_ge c =
    let said = at_least_said _ in
    or_second _ _ _ _ (sym (said c.args.self.least c.args.end c.compare.result c.requires.least
    c.compare.ensures.order) ∙ sym c.is_ge.ensures) c.if-is_ge.false (c.is_ge-else-is_ge.ensures
    ∙ said c.args.self.greatest c.args.end c.compare-else-is_ge.result c.requires.greatest
    c.compare-else-is_ge.ensures.order)
