use Rattle.cj_feature.proofs.Common.{length, subst, sym, tokens_in, tree, ◌<◌, ◌∙◌}
use Rattle.cj_feature.proofs.Walking.{beside, first-among, later-left, marked-back, marked-beside, shown-beside}
use Rattle.cj_feature.proofs.feature.search.reached.find_unmarked.Goals.{else-not-marked-via-then-not-marked+else-same_text, else-not-marked-via-else-not-marked}
use Rattle.cj_feature.proofs.feature.search.reached.find_unmarked.Goals as goal

pub returns-then-same_text-clause-found : goal.returns-then-same_text-clause-found
returns-then-same_text-clause-found c =
    let all = c.args.objects in
    let n = c.in-Some.object in
    let steps = c.in-Some.ensures.steps in
    let walk = c.loop-name.invariant.walk in
    let b = beside walk _ _ steps in
    record {
      name = tree c.in-Some.name;
      object = tree n;
      held = first-among walk _ _ steps;
      named = sym c.same_text.ensures.test ∙ c.if-same_text.true;
      within = subst (λ s. c.number.result < length (tokens_in s)) b.1 c.number.ensures.within;
      shown = shown-beside all n b c.number.result (tree n) c.number.ensures.token;
      unmarked = λ h. c.marked.ensures.no c.if-not-marked.true (marked-back all n b (tree n) h);
    }

pub loop-name-preserved : goal.loop-name-preserved
loop-name-preserved c =
    let n = c.in-Some.object in
    let steps = c.in-Some.ensures.steps in
    later-left c.loop-name.invariant _ _ steps (λ same.
    elim c.else-not-marked.branch [
      | else-not-marked-via-then-not-marked+else-same_text w ↦
          absurd (cc (w.same_text.ensures.test, w.if-same_text.false, same))
      | else-not-marked-via-else-not-marked w ↦
          marked-beside c.args.objects n (beside c.loop-name.invariant.walk _ _ steps) (tree n)
          (c.marked.ensures.yes w.if-not-marked.false)
    ])
