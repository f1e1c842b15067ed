use Rattle.cj_stream.proofs.Common.{Tree, ap, class_of, feature_header, geometries_left, lod, map, sym, templates_of, tree, ◌∙◌, ◌∷◌}
use Rattle.cj_stream.proofs.TallySinkLemmas.{Counting-start, Counting-step, Counting-end}
use Rattle.cj_stream.proofs.tally.adding.count_together.Goals as goal

pub loop-geometry-init : goal.loop-geometry-init
loop-geometry-init c = record {
  templates = c.beside-lods.ensures.given ∙ c.templates.ensures.given;
  counts = rw (c.into_iter-geometry-iterator.ensures.into_iter_gives, c.geometries-geometry-items.ensures.geometries)
      (Counting-start _ _ _ c.told-counts c.fits-counts);
}

pub loop-geometry-preserved : goal.loop-geometry-preserved
loop-geometry-preserved c =
    let class = λ (g : Tree). class_of (lod (templates_of (feature_header c.args.feature.now)) g) in
    let same = c.loop-geometry.invariant.templates in
    let found = ap (λ templates. lod templates (tree c.in-Some.geometry)) (sym same) ∙ sym c.lod_of.ensures.lod in
    let own = ap class_of found ∙ sym c.class_of-class.ensures.class in
    let first = ap (map class) c.in-Some.ensures.steps.0
    ∙ ap (λ n. n ∷ map class (geometries_left c.next.new.self)) own in
    record {
      templates = c.lod_of.ensures.same ∙ same;
      counts = Counting-step 6 _ _ c.loop-geometry.counts c.class_of-class.result _ _ _ c.class_of-class.ensures.below
          first c.saturating_add.ensures c.loop-geometry.invariant.counts;
    }

pub returns : goal.returns
returns c = Counting-end 6 _ _ _ (rw c.in-None.ensures.steps.0.0 at c.loop-geometry.invariant.counts)
