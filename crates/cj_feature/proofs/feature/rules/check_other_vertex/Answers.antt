use Rattle.cj_feature.proofs.Common.{NotThree, sym, tree, whole_number, ◌∙◌}
use Rattle.cj_feature.proofs.Rules.{of_length-late}
use Rattle.cj_feature.proofs.feature.rules.check_other_vertex.Goals as goal

pub returns-then-check_wholes-ne3 : goal.returns-then-check_wholes-ne3
returns-then-check_wholes-ne3 c =
    of_length-late NotThree 3 whole_number (tree c.args.node) _ _ _ _
    (sym c.check_array.ensures.is ∙ c.if-check_array.true) c.check_array.ensures.found c.check_wholes.ensures.found
    (λ e. c.if-check_wholes-ne3.true (c.check_wholes.ensures.count ∙ e)) c.add.ensures
