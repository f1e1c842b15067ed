use Rattle.cj_feature.proofs.Common.{AddsNone, Knows, ReachesName, Tree, WaitsFor, line_of, spans_by, tree}
use Rattle.cj_feature.proofs.feature.search.near.Near.note.Given as goal

abbrev pub invariant-loop-place : goal.invariant-loop-place
invariant-loop-place g l = record {
  hand : AddsNone l.initial.self.lists l.self.lists;
  known : Knows l.objects l.self.lists;
  pending : (feature : Tree) → ReachesName feature l.objects (tree l.text)
      → WaitsFor feature (line_of l.objects) (spans_by l.objects) l.initial.self.pending
      → WaitsFor feature (line_of l.objects) (spans_by l.objects) l.self.pending;
}
