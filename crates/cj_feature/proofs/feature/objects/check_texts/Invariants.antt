use Rattle.cj_feature.proofs.Common.{FindsAll, is_text, items_left, items_of, nothing, of_kind, tree}
use Rattle.cj_feature.proofs.feature.objects.check_texts.Given as goal

abbrev pub invariant-loop-item : goal.invariant-loop-item
invariant-loop-item l = FindsAll (of_kind is_text nothing) l.found (items_left l.item-iterator) l.initial.found
    (items_of (tree l.node))
