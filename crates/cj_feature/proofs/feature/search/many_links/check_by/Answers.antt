use Rattle.cj_feature.proofs.Common.{ap, flat_map, least, members_of, rules, tree, ◌∙◌}
use Rattle.cj_feature.proofs.Questions.{parents_and_part, walks}
use Rattle.cj_feature.proofs.feature.search.many_links.check_by.Goals as goal

pub check_all_children-requires : goal.check_all_children-requires
check_all_children-requires g c = (search rules, c.new-questions.ensures _ c.args.objects)

pub check_all_parents-requires : goal.check_all_parents-requires
check_all_parents-requires g c = (search rules, c.clear.ensures _ c.args.objects)

pub returns : goal.returns
returns g c =
    let all = members_of (tree c.args.objects) in
    c.check_all_parents.ensures ∙ ap (λ o. least o (flat_map (parents_and_part all) all)) c.check_all_children.ensures
    ∙ walks all all c.args.found.now
