use Rattle.cj_geometry.proofs.Arrays.{on_then, on_else}
use Rattle.cj_geometry.proofs.steps.note_sizes.Goals.{then-until-eq0, else-until-eq0}
use Rattle.cj_geometry.proofs.steps.note_sizes.Goals as goal

pub loop-item-preserved : goal.loop-item-preserved
loop-item-preserved c =
    let l = c.loop-item.invariant in
    let step = c.in-Some.ensures.steps.0 in
    elim c.if-until-eq0.branch [
      | then-until-eq0 w ↦ on_then _ _ l step
          w.if-until-eq0.true w.sizes-is w.place-is w.until-is c.size-size.ensures
      | else-until-eq0 w ↦ on_else _ _ l step
          w.if-until-eq0.false w.sizes-is w.place-is w.until-is c.size-size.ensures
    ]
