use Rattle.cj_feature.proofs.Common.{contains_first, contains_later, tree}
use Rattle.cj_feature.proofs.Questions.{sought-same}
use Rattle.cj_feature.proofs.Walking.{each-more}
use Rattle.cj_feature.proofs.feature.search.reached.find_child.Goals as goal

pub returns-in-Some-find_unmarked-clause-found : goal.returns-in-Some-find_unmarked-clause-found
returns-in-Some-find_unmarked-clause-found c =
    let item = tree c.in-Some-item.item in
    record {
      item = item;
      held = c.loop-item.invariant.among item (rw c.in-Some-item.ensures.steps.0 (contains_first item _));
      unmarked = c.in-Some-find_unmarked.ensures.found;
    }

pub loop-item-preserved-in_default-find_unmarked : goal.loop-item-preserved-in_default-find_unmarked
loop-item-preserved-in_default-find_unmarked c =
    let item = tree c.in-Some-item.item in
    let e = c.in-Some-item.ensures.steps.0 in
    record {
      among = λ t h. c.loop-item.invariant.among t (rw e (contains_later item _ t h));
      left = λ h. c.loop-item.invariant.left
          (each-more _ _ _ _ e (λ m held same n. c.in_default-find_unmarked.ensures.none m held same) h);
    }

pub loop-item-preserved : goal.loop-item-preserved
loop-item-preserved c =
    let item = tree c.in-Some-item.item in
    let e = c.in-Some-item.ensures.steps.0 in
    record {
      among = λ t h. c.loop-item.invariant.among t (rw e (contains_later item _ t h));
      left = λ h. c.loop-item.invariant.left
          (each-more _ _ _ _ e (λ m held same n. absurd
          (c.has.ensures c.if-has.false (sought-same c.args.objects c.args.names m.0 item same n))) h);
    }
