use Rattle.cj_spans.proofs.Common.{ℕ, ◌-◌, ◌≤◌, length, BoundedList, Token, BeginsValue, InArray, Standing, Stands}
use Rattle.cj_spans.proofs.arrays.read_arrays.Given as goal

abbrev pub invariant-loop-next : goal.invariant-loop-next
invariant-loop-next l = record {
  stands : Stands l.line l.tokens l.stack l.next.mode l.next.place;
  answer : (ts : BoundedList Token) (ks : BoundedList ℕ)
      → Standing l.line ts ks l.fn.tokens l.fn.stack l.fn.from.mode l.fn.from.place
      → Standing l.line ts ks l.tokens l.stack l.next.mode l.next.place;
  array : InArray l.stack.elements l.tokens.elements;
  begins : BeginsValue l.next.mode;
  order : l.fn.from.place ≤ l.next.place;
}

abbrev pub decreases-loop-next : goal.decreases-loop-next
decreases-loop-next l = length l.line - l.next.place
