use Rattle.cj_spans.proofs.Common.{◌-◌, false, length, Array, BeginsValue, StandsIn, ReadsNumbers}
use Rattle.cj_spans.proofs.arrays.read_numbers.Given as goal

abbrev pub invariant-loop-next : goal.invariant-loop-next
invariant-loop-next l = record {
  stands : StandsIn Array l.line l.tokens l.next.mode l.next.place;
  reads : ReadsNumbers l.line l.fn.tokens l.fn.from l.tokens (record { next = l.next; ended = false });
  begins : BeginsValue l.next.mode;
}

abbrev pub decreases-loop-next : goal.decreases-loop-next
decreases-loop-next l = length l.line - l.next.place
