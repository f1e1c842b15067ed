use Rattle.cj_feature.proofs.Common.{sym, tree, ◌∙◌}
use Rattle.std.proofs.lemmas.Bool.{or_parts}
use Rattle.cj_feature.proofs.LinkFaults.{not_there, lists_nobody}
use Rattle.cj_feature.proofs.feature.objects.check_city_object.Goals as goal

pub returns-then-check_object-clause-unlinked : goal.returns-then-check_object-clause-unlinked
returns-then-check_object-clause-unlinked c = λ h.
    let none = or_parts c.is_some.result c.is_some-then-check_object.result h in
    let members = c.get_four-kind.ensures in
    lists_nobody (tree c.args.node) (not_there _ _ _ (sym c.is_some.ensures ∙ none.0) members.third)
    (not_there _ _ _ (sym c.is_some-then-check_object.ensures ∙ none.1) members.fourth)
