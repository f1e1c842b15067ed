use Rattle.cj_geometry.proofs.Common.{refl, ap, arith, entry, items_left, items_of, length, length-drop, tree, ◌∙◌}
use Rattle.cj_geometry.proofs.Arrays.{past-none}
use Rattle.cj_geometry.proofs.semantics.check_entries.Goals as goal

pub loop-item-init : goal.loop-item-init
loop-item-init c =
    let rule = entry c.args.surfaces.count in
    let items = items_of (tree c.args.node) in
    let front = c.count_entries-front in
    let lone = front.ensures.lone in
    let left = ap items_left c.into_iter-item-iterator.ensures.into_iter_gives
    ∙ c.items_behind-item-items.ensures.items front.result lone.within lone.sizes in
    record {
      found = rw (left, past-none rule front.result items front.ensures.none) refl;
      count = omega (arith, ap length left, length-drop front.result items, lone.within);
    }
