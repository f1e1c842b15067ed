use Rattle.cj_feature.proofs.Common.{back_of, members_of, noted_in, tree}
use Rattle.cj_feature.proofs.Questions.{hidden_linked, listed_linked, lists_known}
use Rattle.cj_feature.proofs.feature.search.many_links.check_item.Goals as goal

pub returns-then-is_found_before-clause-found : goal.returns-then-is_found_before-clause-found
returns-then-is_found_before-clause-found g c =
    hidden_linked c.args.ahead.link (members_of (tree c.args.objects)) (noted_in c.args.objects c.args.ahead.name)
    (tree c.args.item) c.args.found.now (λ r. c.is_found_before.ensures c.if-is_found_before.true r)

pub returns-in-Listed-clause-found : goal.returns-in-Listed-clause-found
returns-in-Listed-clause-found g c =
    listed_linked c.args.ahead.link (members_of (tree c.args.objects)) (noted_in c.args.objects c.args.ahead.name)
    (tree c.args.item) c.args.found.now c.in-Listed.ensures.answer

pub returns-in-Listed-clause-known : goal.returns-in-Listed-clause-known
returns-in-Listed-clause-known g c h =
    lists_known (back_of c.args.ahead.link) (members_of (tree c.args.objects)) (tree c.args.item)
    (noted_in c.args.objects c.args.ahead.name) c.in-Listed.ensures.answer
