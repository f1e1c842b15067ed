use Rattle.cj_spans.proofs.Common.{ℕ, ◌-◌, ◌≤◌, length, Lex, Continues}
use Rattle.cj_spans.proofs.lex.skip_digits_singly.Given as goal

abbrev pub invariant-loop-stop : goal.invariant-loop-stop
invariant-loop-stop l =
    ((i : ℕ) (x : Lex) → Continues l.line i x l.place l.fn.read → Continues l.line i x l.stop l.fn.read)
    × (l.place ≤ l.stop) × (l.stop ≤ length l.line)

abbrev pub decreases-loop-stop : goal.decreases-loop-stop
decreases-loop-stop l = length l.line - l.stop
