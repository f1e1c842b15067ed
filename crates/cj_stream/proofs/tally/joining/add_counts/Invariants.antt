use Rattle.cj_stream.proofs.Common.{capped, get_or, ℕ, ◌+◌, ◌<◌, ◌≡◌, ◌≤◌}
use Rattle.cj_stream.proofs.tally.joining.add_counts.Given as goal

abbrev pub invariant-loop-i : goal.invariant-loop-i
invariant-loop-i l = record {
  added : (n : ℕ) → n < l.i → get_or l.counts n 0 ≡ capped (get_or l.initial.counts n 0 + get_or l.others n 0);
  left : (n : ℕ) → l.i ≤ n → get_or l.counts n 0 ≡ get_or l.initial.counts n 0;
}
