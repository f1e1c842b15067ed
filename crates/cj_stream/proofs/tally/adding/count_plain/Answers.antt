use Rattle.cj_stream.proofs.Common.{Tree, ap, arith, map, objects_left, row_number, sym, type_row, ◌∙◌, ◌∷◌}
use Rattle.cj_feature.specs.Walks.{object_trees}
use Rattle.cj_stream.proofs.TallySinkLemmas.{Counting-start, Counting-step, Counting-some, own-first}
use Rattle.cj_stream.proofs.tally.adding.count_plain.Goals as goal

pub loop-object-init : goal.loop-object-init
loop-object-init c = rw (c.into_iter-object-iterator.ensures.into_iter_gives, c.objects-object-items.ensures.objects)
    record {
      types = Counting-start _ _ _ c.told-types c.fits-types;
      lods = Counting-start _ _ _ c.told-lods c.fits-lods;
    }

pub loop-object-preserved : goal.loop-object-preserved
loop-object-preserved c =
    let number = λ (m : Tree × Tree). row_number (type_row m.1) in
    let own = ap row_number c.in-Some.object.typed ∙ sym c.slot_of-number.ensures.number in
    let first = ap (map number) c.in-Some.ensures.steps.0
    ∙ ap (λ n. n ∷ map number (objects_left c.next.new.self)) own in
    record {
      types = Counting-step 34 _ _ c.loop-object.types c.slot_of-number.result _ _ _ (omega arith) first
          c.saturating_add.ensures c.loop-object.invariant.types;
      lods = Counting-some 6 _ _ _ _ _ _ _ c.count_own.array_long
          (own-first (object_trees c.in-Some.object) _ _ c.in-Some.ensures.steps.0) c.count_own.ensures
          c.loop-object.invariant.lods;
    }
