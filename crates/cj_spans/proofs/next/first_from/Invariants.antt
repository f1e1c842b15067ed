use Rattle.cj_spans.proofs.Common.{◌≡◌, ◌+◌, ◌-◌, ◌≤◌, length, drop, before}
use Rattle.cj_spans.proofs.next.first_from.Given as goal

abbrev pub invariant-loop-next : goal.invariant-loop-next
invariant-loop-next l = (l.from + before l.stop (drop l.from l.tokens) ≡ l.next + before l.stop (drop l.next l.tokens))
    × (l.next ≤ length l.tokens)

abbrev pub decreases-loop-next : goal.decreases-loop-next
decreases-loop-next l = length l.tokens - l.next
