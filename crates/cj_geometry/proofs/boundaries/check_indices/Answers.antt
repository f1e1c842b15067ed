use Rattle.cj_geometry.proofs.Common.{refl, VertexIndex, shape}
use Rattle.cj_geometry.proofs.Arrays.{past-none}
use Rattle.cj_geometry.proofs.boundaries.check_indices.Goals as goal

pub loop-item-init : goal.loop-item-init
loop-item-init c =
    let front = c.count_indices-front in
    let lone = front.ensures.lone in
    rw (
      c.into_iter-item-iterator.ensures.into_iter_gives,
      c.items_behind-item-items.ensures.items front.result lone.within lone.sizes,
      past-none (shape c.args.vertices.count 0) front.result _ (front.ensures.none VertexIndex),
    ) refl
