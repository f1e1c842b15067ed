use Rattle.cj_spans.proofs.Common.{◌-◌, length, GoesTo}
use Rattle.cj_spans.proofs.atom.read_on.Given as goal

abbrev pub invariant-loop-stop : goal.invariant-loop-stop
invariant-loop-stop l = GoesTo l.line l.place l.fn.first l.stop l.read

abbrev pub decreases-loop-stop : goal.decreases-loop-stop
decreases-loop-stop l = length l.line - l.stop
