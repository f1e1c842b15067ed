use Rattle.cj_feature.proofs.Common.{IsMarked, IsReachedObject, Json, Tree, bare, ◌≡◌}
use Rattle.cj_feature.proofs.Walking.{unmarked_count}
use Rattle.cj_feature.proofs.feature.search.reached.mark_reached.Given as goal

abbrev pub invariant-loop-number : goal.invariant-loop-number
invariant-loop-number l = record {
  tokens : bare l.tokens.elements ≡ bare l.fn.tokens.elements;
  list : l.tokens ≡ record l.fn.tokens { elements = l.tokens.elements };
  sound : (t : Tree) → Json l.line t → (u : Tree) → IsMarked l.line l.tokens.elements u → IsReachedObject t u;
}

abbrev pub decreases-loop-number : goal.decreases-loop-number
decreases-loop-number l = unmarked_count l.tokens.elements
