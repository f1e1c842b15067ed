use Rattle.cj_feature.proofs.Common.{AreValuesInOrder, members_of, refl, subst, tree, unreached}
use Rattle.cj_spans.proofs.Findings.{least_on}
use Rattle.cj_feature.proofs.Reaching.{marked-reached, unmarked-unreached}
use Rattle.cj_feature.proofs.Walking.{beside, first-among, later-among, marked-back, marked-beside}
use Rattle.cj_feature.proofs.feature.search.reached.check_marks.Goals as goal

pub loop-object-preserved-then-not-marked : goal.loop-object-preserved-then-not-marked
loop-object-preserved-then-not-marked c =
    let objects = c.args.objects in
    let n = c.in-Some.object in
    let steps = c.in-Some.ensures.steps in
    let walk = c.loop-object.invariant.walk in
    let unreached_here =
    unmarked-unreached objects (tree c.args.id) (tree c.in-Some.field-0-0) (tree n) c.requires
    (first-among walk _ _ steps)
    (λ h. c.marked.ensures.no c.if-not-marked.true (marked-back objects n (beside walk _ _ steps) (tree n) h)) in
    record {
      walk = later-among walk _ _ steps;
      found = least_on (unreached (members_of (tree objects)) (tree c.args.id)) _ _ _ _ _ _
          c.loop-object.invariant.found steps.0 (rw unreached_here c.add.ensures);
    }

pub loop-object-preserved : goal.loop-object-preserved
loop-object-preserved c =
    let objects = c.args.objects in
    let n = c.in-Some.object in
    let steps = c.in-Some.ensures.steps in
    let walk = c.loop-object.invariant.walk in
    let order = subst AreValuesInOrder c.members-object-items.ensures.members c.members-object-items.ensures.values in
    let reached_here =
    marked-reached objects (tree c.args.id) (tree c.in-Some.field-0-0) (tree n) c.requires (first-among walk _ _ steps)
    order (marked-beside objects n (beside walk _ _ steps) (tree n) (c.marked.ensures.yes c.if-not-marked.false)) in
    record {
      walk = later-among walk _ _ steps;
      found = least_on (unreached (members_of (tree objects)) (tree c.args.id)) _ _ _ _ _ _
          c.loop-object.invariant.found steps.0 (rw reached_here refl);
    }
