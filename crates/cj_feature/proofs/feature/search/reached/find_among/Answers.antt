use Rattle.cj_feature.proofs.Common.{tree}
use Rattle.cj_feature.proofs.Walking.{beside, first-among, later-left, marked-back, marked-beside}
use Rattle.cj_feature.proofs.feature.search.reached.find_among.Goals as goal

pub returns-in-Some-find_child-clause-found : goal.returns-in-Some-find_child-clause-found
returns-in-Some-find_child-clause-found c =
    let n = c.in-Some.object in
    let steps = c.in-Some.ensures.steps in
    let walk = c.loop-object.invariant.walk in
    record {
      parent = (tree c.in-Some.field-0-0, tree n);
      held = first-among walk _ _ steps;
      marked = marked-beside c.args.objects n (beside walk _ _ steps) (tree n) (c.marked.ensures.yes c.if-marked.true);
      listed = c.in-Some-find_child.ensures.found;
    }

pub loop-object-preserved-in_default : goal.loop-object-preserved-in_default
loop-object-preserved-in_default c =
    later-left c.loop-object.invariant _ _ c.in-Some.ensures.steps (λ m. c.in_default.ensures.none)

pub loop-object-preserved : goal.loop-object-preserved
loop-object-preserved c =
    let n = c.in-Some.object in
    let steps = c.in-Some.ensures.steps in
    later-left c.loop-object.invariant _ _ steps
    (λ h. absurd (c.marked.ensures.no c.if-marked.false
    (marked-back c.args.objects n (beside c.loop-object.invariant.walk _ _ steps) (tree n) h)))
