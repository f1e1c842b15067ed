use Rattle.cj_geometry.proofs.Common.{items_left, items_source, slice_get, ◌≡◌}
use Rattle.cj_geometry.proofs.lod.item_at.Given as goal

abbrev pub invariant-loop-item : goal.invariant-loop-item
invariant-loop-item l =
    (slice_get (items_left l.item-iterator) l.left ≡ slice_get (items_left l.items) l.number)
    × (items_source l.item-iterator ≡ items_source l.items)
