use Rattle.cj_feature.proofs.Common.{Contains, SoughtHaveMarks, Tree, chars, codes, items_left, listed_in, tree}
use Rattle.cj_feature.proofs.feature.search.reached.find_child.Given as goal

abbrev pub invariant-loop-item : goal.invariant-loop-item
invariant-loop-item l = record {
  among : (item : Tree) → Contains (items_left l.item-iterator) item
      → Contains (listed_in (chars (codes "children")) (tree l.object)) item;
  left : SoughtHaveMarks l.objects l.names (items_left l.item-iterator)
      → SoughtHaveMarks l.objects l.names (listed_in (chars (codes "children")) (tree l.object));
}
