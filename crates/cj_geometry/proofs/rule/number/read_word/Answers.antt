use Rattle.cj_spans.specs.View.{tree}
use Rattle.cj_geometry.proofs.Numbers.{few-there-if}
use Rattle.cj_geometry.proofs.rule.number.read_word.Goals as goal

pub returns : goal.returns
returns c =
    let span = c.span-start.ensures in
    let read = c.read_few_in.ensures in
    few-there-if (tree c.args.node) _ _ c.line.ensures span.order span.spelling span.kind _
    (λ some. (read.few.0 some).0) read.answer read.small
