use Rattle.cj_feature.proofs.Common.{Contains, contains_none, subst, sym, tree}
use Rattle.cj_feature.proofs.Walking.{beside, later-left, marked-beside}
use Rattle.cj_feature.proofs.feature.search.reached.are_marked.Goals as goal

pub loop-object-preserved : goal.loop-object-preserved
loop-object-preserved c =
    let n = c.in-Some.object in
    let steps = c.in-Some.ensures.steps in
    later-left c.loop-object.invariant _ _ steps
    (marked-beside c.args.objects n (beside c.loop-object.invariant.walk _ _ steps) (tree n)
    (c.marked.ensures.yes c.if-not-marked.false))

pub loop-object-init : goal.loop-object-init
loop-object-init c =
    let m = c.members-object-items.ensures in
    rw c.into_iter-object-iterator.ensures.into_iter_gives (record {
      walk = record {
        among = λ t h. subst (λ ms. Contains ms t) m.members h;
        line = m.line;
        source = m.source;
      };
      all = λ rest t h. rest t (subst (λ ms. Contains ms t) (sym m.members) h);
    })

pub returns : goal.returns
returns c e =
    c.loop-object.invariant.all
    (λ t h. absurd (contains_none t (subst (λ ms. Contains ms t) c.in-None.ensures.steps.0.0 h)))
