use Rattle.cj_feature.proofs.Common.{contains_first, contains_later, tree}
use Rattle.cj_feature.proofs.NearLemmas.{known-kept, lists-reached, more-hand}
use Rattle.cj_feature.proofs.feature.search.near.Near.note_children.Goals as goal

pub loop-item-preserved : goal.loop-item-preserved
loop-item-preserved g c =
    let inv = c.loop-item.invariant in
    let e = c.in-Some-item.ensures.steps.0 in
    let item = tree c.in-Some-item.item in
    record {
      among = λ t h. inv.among t (rw e (contains_later item _ t h));
      hand = more-hand inv.hand c.note.ensures.hand;
      known = known-kept c.args.objects c.note.ensures.hand inv.known;
      pending = λ f o r waits.
          c.note.ensures.pending f
          (lists-reached f (tree c.args.object) item c.args.objects o r
          (inv.among item (rw e (contains_first item _)))) (inv.pending f o r waits);
    }

pub loop-item-preserved-then-gone-skip : goal.loop-item-preserved-then-gone-skip
loop-item-preserved-then-gone-skip g c =
    let inv = c.loop-item.invariant in
    record {
      among = λ t h. inv.among t (rw c.in-Some-item.ensures.steps.0 (contains_later _ _ t h));
      hand = inv.hand;
      known = inv.known;
      pending = inv.pending;
    }

pub returns-then-is_full-clause-hand : goal.returns-then-is_full-clause-hand
returns-then-is_full-clause-hand g c = more-hand c.loop-item.invariant.hand c.note.ensures.hand

pub returns-then-is_full-clause-pending : goal.returns-then-is_full-clause-pending
returns-then-is_full-clause-pending g c = λ f o r waits.
    let inv = c.loop-item.invariant in
    let item = tree c.in-Some-item.item in
    c.note.ensures.pending f
    (lists-reached f (tree c.args.object) item c.args.objects o r
    (inv.among item (rw c.in-Some-item.ensures.steps.0 (contains_first item _))))
    (inv.pending f o r waits)
