use Rattle.cj_spans.proofs.Common.{ℕ, ◌-◌, ◌≤◌, length, BoundedList, Token, ComesArray, Standing, Stands}
use Rattle.cj_spans.proofs.arrays.enter_arrays.Given as goal

abbrev pub invariant-loop-tokens : goal.invariant-loop-tokens
invariant-loop-tokens l = record {
  stands : Stands l.line l.tokens l.stack l.next.mode l.next.place;
  answer : (ts : BoundedList Token) (ks : BoundedList ℕ)
      → Standing l.line ts ks l.fn.tokens l.fn.stack l.fn.from.mode l.fn.from.place
      → Standing l.line ts ks l.tokens l.stack l.next.mode l.next.place;
  comes : ComesArray l.line l.tokens l.stack l.next;
  order : l.fn.from.place ≤ l.next.place;
}

abbrev pub decreases-loop-tokens : goal.decreases-loop-tokens
decreases-loop-tokens l = length l.line - l.next.place
