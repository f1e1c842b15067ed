use Rattle.cj_spans.proofs.Common.{◌-◌, length, InString, GoesTo}
use Rattle.cj_spans.proofs.atom.read_escapes.Given as goal

abbrev pub invariant-loop-next : goal.invariant-loop-next
invariant-loop-next l = GoesTo l.line l.place InString l.stop InString

abbrev pub decreases-loop-next : goal.decreases-loop-next
decreases-loop-next l = length l.line - l.stop
