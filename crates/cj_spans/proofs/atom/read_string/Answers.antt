use Rattle.cj_spans.proofs.Common.{rules}
use Rattle.cj_spans.proofs.Atoms.{goes_same, reads_far, reads_quote}
use Rattle.cj_spans.proofs.atom.read_string.Goals as goal

pub returns-then-ends_string : goal.returns-then-ends_string
returns-then-ends_string c =
    let s = c.skip_plain-stop.ensures in let b = c.args.line.now in let k = c.skip_plain-stop.result in
    reads_far (goes_same s.same s.order s.end) (reads_quote b k (c.ends_string.ensures c.if-ends_string.true))

pub returns : goal.returns
returns c = search (rules, reads_far, goes_same)
