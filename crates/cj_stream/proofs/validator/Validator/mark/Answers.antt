use Rattle.cj_stream.proofs.Common.{ap, length, sym, tree_of, ◌∙◌}
use Rattle.cj_stream.proofs.ScanningLemmas.{length-bare}
use Rattle.cj_stream.proofs.validator.Validator.mark.Goals as goal

pub returns-then-asks_for_trees-clause-marks : goal.returns-then-asks_for_trees-clause-marks
returns-then-asks_for_trees-clause-marks c =
    λ on. c.mark_reached.ensures.marks (tree_of c.args.self.now.limits.depth c.args.content.now) c.requires.shows.json

pub returns-then-asks_for_trees-clause-count : goal.returns-then-asks_for_trees-clause-count
returns-then-asks_for_trees-clause-count c =
    sym (length-bare _)
    ∙ ap length c.mark_reached.ensures.kept.tokens ∙ length-bare _
