use Rattle.cityseq_c.proofs.Common.{Tree, ap, arith, length, map, objects_left, refl, row_number, sym, type_row, ◌∙◌, ◌∷◌}
use Rattle.cityseq_c.proofs.QueryLemmas.{Marking-end, Marking-start, Marking-step}
use Rattle.cityseq_c.proofs.features.record_of.tally_objects.Goals as goal

pub loop-object-init : goal.loop-object-init
loop-object-init c =
    grind (arith, Marking-start)

pub loop-object-preserved : goal.loop-object-preserved
loop-object-preserved c =
    let number = λ (m : Tree × Tree). row_number (type_row m.1) in
    let step = c.in-Some.ensures.steps.0 in
    let long = ap length step in
    let own = ap row_number c.in-Some.object.typed ∙ sym c.slot_of.ensures.number in
    let first = ap (map number) step ∙ ap (λ n. n ∷ map number (objects_left c.next.new.self)) own in
    let before = c.loop-object.invariant in
    record {
      few = c.saturating_add-count.type_inv;
      counted = omega (arith, long, before.few, before.counted, c.saturating_add-count.ensures);
      marked = Marking-step 34 _ c.loop-object.types c.slot_of.result _ _ _ c.slot_of.ensures.below (omega arith) first
          refl before.marked;
    }

pub returns-clause-count : goal.returns-clause-count
returns-clause-count c =
    grind arith

pub returns-clause-types : goal.returns-clause-types
returns-clause-types c = Marking-end 34 _ _ (rw c.in-None.ensures.steps.0.0 at c.loop-object.invariant.marked)
