use Rattle.cj_spans.proofs.Common.{ℕ, ◌-◌, ◌≤◌, ◌<◌, length, byte}
use Rattle.cj_spans.proofs.utf8.pass_some_ascii.Given as goal

abbrev pub invariant-loop-place : goal.invariant-loop-place
invariant-loop-place l = record {
  order : (l.from ≤ l.place) × (l.place ≤ length l.line);
  ascii : (k : ℕ) → l.from ≤ k → k < l.place → byte l.line k < 128;
}

abbrev pub decreases-loop-place : goal.decreases-loop-place
decreases-loop-place l = length l.line - l.place
