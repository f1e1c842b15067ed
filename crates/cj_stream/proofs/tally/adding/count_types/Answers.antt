use Rattle.cj_stream.proofs.Common.{Tree, ap, arith, map, objects_left, row_number, sym, type_row, ◌∙◌, ◌∷◌}
use Rattle.cj_stream.proofs.TallySinkLemmas.{Counting-start, Counting-step, Counting-end}
use Rattle.cj_stream.proofs.tally.adding.count_types.Goals as goal

pub loop-object-init : goal.loop-object-init
loop-object-init c = rw (c.into_iter-object-iterator.ensures.into_iter_gives, c.objects-object-items.ensures.objects)
    (Counting-start _ _ _ c.told-counts c.fits-counts)

pub loop-object-preserved : goal.loop-object-preserved
loop-object-preserved c =
    let number = λ (m : Tree × Tree). row_number (type_row m.1) in
    let own = ap row_number c.in-Some.object.typed ∙ sym c.slot_of-number.ensures.number in
    let first = ap (map number) c.in-Some.ensures.steps.0
    ∙ ap (λ n. n ∷ map number (objects_left c.next.new.self)) own in
    Counting-step 34 _ _ c.loop-object.counts c.slot_of-number.result _ _ _ (omega arith) first c.saturating_add.ensures
    c.loop-object.invariant

pub returns : goal.returns
returns c =
    let number = λ (m : Tree × Tree). row_number (type_row m.1) in
    Counting-end 34 _ _ _ (rw c.in-None.ensures.steps.0.0 at c.loop-object.invariant)
