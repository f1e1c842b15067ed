use Rattle.cj_spans.proofs.Common.{◌-◌, length, Standing}
use Rattle.cj_spans.proofs.scanner.run.Given as goal

abbrev pub invariant-loop-place : goal.invariant-loop-place
invariant-loop-place l = Standing l.line l.initial.tokens l.initial.stack l.tokens l.stack l.mode l.place

abbrev pub decreases-loop-place : goal.decreases-loop-place
decreases-loop-place l = length l.line - l.place
