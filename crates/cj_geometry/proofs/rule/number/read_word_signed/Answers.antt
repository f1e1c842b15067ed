use Rattle.cj_spans.specs.View.{tree}
use Rattle.cj_geometry.proofs.Numbers.{signed-there-if}
use Rattle.cj_geometry.proofs.rule.number.read_word_signed.Goals as goal

pub returns : goal.returns
returns c =
    let span = c.span-start.ensures in
    let read = c.read_few_signed_in.ensures in
    signed-there-if (tree c.args.node) _ _ c.line.ensures span.order span.spelling span.kind _ read.number
    read.answer
