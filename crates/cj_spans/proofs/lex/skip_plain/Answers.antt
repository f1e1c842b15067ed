use Rattle.cj_spans.proofs.Common.{arith}
use Rattle.cj_spans.proofs.Atoms.{plain_run, plain_to}
use Rattle.cj_spans.proofs.lex.skip_plain.Goals as goal

pub returns-in-Some-clause-same : goal.returns-in-Some-clause-same
returns-in-Some-clause-same c = λ i x r.
    let f = c.in-Some.ensures.found in
    plain_to c.in-Some.place f.0 f.2 (c.loop-stop.invariant.0 i x r)

pub loop-stop-preserved : goal.loop-stop-preserved
loop-stop-preserved c =
    let order = c.loop-stop.invariant.1 in (
      λ i x r. plain_run 16 c.in-None.ensures.none (c.loop-stop.invariant.0 i x r),
      omega arith,
      omega arith,
    )
