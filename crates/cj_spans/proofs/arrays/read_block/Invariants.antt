use Rattle.cj_spans.proofs.Common.{◌-◌, false, length, Array, BeginsValue, StandsIn, ReadsNumbers, AreMarked}
use Rattle.cj_spans.proofs.arrays.read_block.Given as goal

abbrev pub invariant-loop-others : goal.invariant-loop-others
invariant-loop-others l = record {
  stands : StandsIn Array l.line l.tokens l.next.mode l.next.place;
  reads : ReadsNumbers l.line l.fn.tokens l.fn.from l.tokens (record { next = l.next; ended = false });
  begins : BeginsValue l.next.mode;
  marked : AreMarked l.line l.next.place l.others;
}

abbrev pub decreases-loop-others : goal.decreases-loop-others
decreases-loop-others l = length l.line - l.next.place
