use Rattle.cj_feature.proofs.Common.{AddsNone, Contains, IsReachedObject, Knows, Some, Tree, WaitsFor, chars, codes, items_left, line_of, listed_in, member_of, spans_by, tree, ◌≡◌}
use Rattle.cj_feature.proofs.feature.search.near.Near.note_children.Given as goal

abbrev pub invariant-loop-item : goal.invariant-loop-item
invariant-loop-item g l = record {
  among : (item : Tree) → Contains (items_left l.item-iterator) item
      → Contains (listed_in (chars (codes "children")) (tree l.object)) item;
  hand : AddsNone l.initial.self.lists l.self.lists;
  known : Knows l.objects l.self.lists;
  pending : (feature : Tree) → member_of (chars (codes "CityObjects")) feature ≡ Some (tree l.objects)
      → IsReachedObject feature (tree l.object)
      → WaitsFor feature (line_of l.objects) (spans_by l.objects) l.initial.self.pending
      → WaitsFor feature (line_of l.objects) (spans_by l.objects) l.self.pending;
}
