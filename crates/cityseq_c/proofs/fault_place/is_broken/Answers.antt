use Rattle.std.proofs.Common.{◌∙◌, ap, not}
use Rattle.cityseq_c.proofs.QueryLemmas.{is-text, not-flipped}
use Rattle.cityseq_c.proofs.fault_place.is_broken.Goals as goal

pub returns-then-asked : goal.returns-then-asked
returns-then-asked c =
    rw c.if-asked.true (not-flipped c.is_err.result _ c.is_err.ensures.negation
    ∙ ap not (is-text _ c.args.text.now _ c.from_utf8.ensures.cases))
