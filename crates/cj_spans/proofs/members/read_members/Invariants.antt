use Rattle.cj_spans.proofs.Common.{ℕ, ◌-◌, ◌≤◌, length, BoundedList, Token, InObject, Standing, Stands}
use Rattle.cj_spans.proofs.members.read_members.Given as goal

abbrev pub invariant-loop-next : goal.invariant-loop-next
invariant-loop-next l = record {
  stands : Stands l.line l.tokens l.stack l.next.mode l.next.place;
  answer : (ts : BoundedList Token) (ks : BoundedList ℕ)
      → Standing l.line ts ks l.fn.tokens l.fn.stack l.fn.from.mode l.fn.from.place
      → Standing l.line ts ks l.tokens l.stack l.next.mode l.next.place;
  object : InObject l.stack.elements l.tokens.elements;
  order : l.fn.from.place ≤ l.next.place;
}

abbrev pub decreases-loop-next : goal.decreases-loop-next
decreases-loop-next l = length l.line - l.next.place
