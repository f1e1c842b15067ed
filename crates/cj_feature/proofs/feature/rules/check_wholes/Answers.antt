use Rattle.cj_feature.proofs.Common.{ap, arith, flat_map, items_left, items_of, least, length, length-drop, tree, whole_number, ◌∙◌}
use Rattle.cj_geometry.proofs.Arrays.{past-none}
use Rattle.cj_feature.proofs.feature.rules.check_wholes.Goals as goal

pub loop-item-init : goal.loop-item-init
loop-item-init c =
    let front = c.count_wholes-front in
    let ts = items_of (tree c.args.node) in
    let lone = front.ensures.lone in
    let behind = c.items_behind-item-items.ensures.items front.result lone.within lone.sizes in
    let left = ap items_left c.into_iter-item-iterator.ensures.into_iter_gives ∙ behind in
    let count = ap length left ∙ length-drop front.result ts in
    let within = front.ensures.lone.within in (
      omega (arith, count, within),
      ap (λ us. least c.args.found.now (flat_map whole_number us)) left
          ∙ ap (least c.args.found.now) (past-none whole_number front.result ts front.ensures.none),
    )
