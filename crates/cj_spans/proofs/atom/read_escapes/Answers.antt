use Rattle.cj_spans.proofs.Common.{arith}
use Rattle.cj_spans.proofs.Atoms.{goes_far, goes_same, reads_far, reads_quote}
use Rattle.cj_spans.proofs.atom.read_escapes.Goals as goal

pub loop-next-init : goal.loop-next-init
loop-next-init c = goes_same (λ n x r. r) (omega arith) c.requires

pub loop-next-preserved : goal.loop-next-preserved
loop-next-preserved c =
    let s = c.skip_plain-stop.ensures in
    goes_far c.loop-next.invariant (goes_far c.in-Some.ensures.1 (goes_same s.same s.order s.end))

pub returns-then-ends_string : goal.returns-then-ends_string
returns-then-ends_string c =
    reads_far c.loop-next.invariant
    (reads_quote c.args.line.now c.loop-next.stop (c.ends_string.ensures c.if-ends_string.true))

pub returns : goal.returns
returns c = reads_far c.loop-next.invariant c.read_on.ensures
