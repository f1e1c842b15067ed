use Rattle.cj_feature.proofs.Common.{rules}
use Rattle.cj_feature.proofs.NearLemmas.{known-kept, more-hand}
use Rattle.cj_feature.proofs.feature.search.near.Near.note.Goals as goal

pub loop-place-preserved : goal.loop-place-preserved
loop-place-preserved g c =
    let inv = c.loop-place.invariant in
    record {
      hand = more-hand inv.hand c.note_one.ensures.hand;
      known = known-kept c.args.objects c.note_one.ensures.hand inv.known;
      pending = λ f reaches waits. c.note_one.ensures.pending f reaches (inv.pending f reaches waits);
    }

pub returns-then-is_sorted-clause-hand : goal.returns-then-is_sorted-clause-hand
returns-then-is_sorted-clause-hand g c = search (rules, more-hand)

pub returns-then-is_sorted-clause-pending : goal.returns-then-is_sorted-clause-pending
returns-then-is_sorted-clause-pending g c =
    search (rules, c.note_one.ensures.pending, c.loop-place.invariant.pending)
