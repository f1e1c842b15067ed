use Rattle.cj_stream.proofs.Common.{ap, class_of, items_left, own_classes, sym, ◌∙◌, ◌∷◌}
use Rattle.cj_stream.proofs.TallySinkLemmas.{Counting-step}
use Rattle.cj_stream.proofs.tally.adding.count_own.Goals as goal

pub loop-geometry-preserved : goal.loop-geometry-preserved
loop-geometry-preserved c =
    let own = ap class_of (sym c.get-in-loop-geometry.ensures.value) ∙ sym c.class_of-class.ensures.class in
    Counting-step 6 _ _ _ _ _ _ _ c.class_of-class.ensures.below (ap own_classes c.in-Some-geometry.ensures.steps.0
    ∙ ap (λ n. n ∷ own_classes (items_left c.next.new.self)) own)
    c.saturating_add.ensures c.loop-geometry.invariant
