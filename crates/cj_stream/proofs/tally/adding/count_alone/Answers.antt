use Rattle.cj_stream.proofs.Common.{ap, class_of, geometries_left, own_classes, sym, ◌∙◌, ◌∷◌}
use Rattle.cj_stream.proofs.TallySinkLemmas.{Counting-start, Counting-step, Counting-end}
use Rattle.cj_stream.proofs.tally.adding.count_alone.Goals as goal

pub loop-geometry-init : goal.loop-geometry-init
loop-geometry-init c =
    rw (c.into_iter-geometry-iterator.ensures.into_iter_gives, c.geometries-geometry-items.ensures.geometries)
    (Counting-start _ _ _ c.told-counts c.fits-counts)

pub loop-geometry-preserved : goal.loop-geometry-preserved
loop-geometry-preserved c =
    let own = ap class_of (sym c.get.ensures.value) ∙ sym c.class_of-class.ensures.class in
    Counting-step 6 _ _ _ _ _ _ _ c.class_of-class.ensures.below (ap own_classes c.in-Some.ensures.steps.0
    ∙ ap (λ n. n ∷ own_classes (geometries_left c.next.new.self)) own)
    c.saturating_add.ensures c.loop-geometry.invariant

pub returns : goal.returns
returns c = Counting-end 6 _ _ _ (rw c.in-None.ensures.steps.0.0 at c.loop-geometry.invariant)
