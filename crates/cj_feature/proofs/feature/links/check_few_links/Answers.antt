use Rattle.cj_feature.proofs.Common.{members_of, object_links, tree}
use Rattle.cj_spans.proofs.Findings.{least_on}
use Rattle.cj_feature.proofs.feature.links.check_few_links.Goals as goal

pub loop-name-preserved : goal.loop-name-preserved
loop-name-preserved c =
    least_on (object_links (members_of (tree c.args.objects))) _ _ _ _ _ _ c.loop-name.invariant
    c.in-Some.ensures.steps.0 c.check_object_links.ensures
