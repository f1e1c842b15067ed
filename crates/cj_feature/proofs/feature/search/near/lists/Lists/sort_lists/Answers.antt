use Rattle.cj_feature.proofs.NearLemmas.{among-moved, more-hand}
use Rattle.cj_feature.proofs.feature.search.near.lists.Lists.sort_lists.Goals.{then-end-start-gt-LONG, else-end-start-gt-LONG}
use Rattle.cj_feature.proofs.feature.search.near.lists.Lists.sort_lists.Goals as goal

pub loop-list-preserved : goal.loop-list-preserved
loop-list-preserved g c =
    elim c.if-end-start-gt-LONG.branch [
      | then-end-start-gt-LONG w ↦
          rw w.self-is (more-hand c.loop-list.invariant
          (record { slots = λ k n s at ready. among-moved c.loop-list.self.slots _ k s w.sort.ensures at }))
      | else-end-start-gt-LONG w ↦ rw w.self-is c.loop-list.invariant
    ]
