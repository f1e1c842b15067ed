use Rattle.cj_geometry.proofs.Common.{items_left, items_of, length, tree}
use Rattle.cj_geometry.proofs.Arrays.{IsNoted}
use Rattle.cj_geometry.proofs.steps.note_sizes.Given as goal

abbrev pub invariant-loop-item : goal.invariant-loop-item
invariant-loop-item l =
    IsNoted (length l.initial.sizes) l.step (items_of (tree l.list)) (items_left l.item-iterator) l.sizes l.place
    l.until l.size
