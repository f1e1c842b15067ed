use Rattle.cj_spans.specs.View.{tree}
use Rattle.cj_geometry.proofs.Numbers.{few-there}
use Rattle.cj_geometry.proofs.rule.number.is_few_below.Goals as goal

pub returns : goal.returns
returns c = λ holds.
    let span = c.span-start.ensures in
    let read = c.is_few_below_in.ensures in
    let r = read.below holds c.args.bound.limit c.args.bound.bounds in (
      r.0,
      r.1,
      r.2,
      few-there (tree c.args.node) _ _ c.line.ensures span.order span.spelling span.kind r.0 (read.few holds) r.3,
    )
