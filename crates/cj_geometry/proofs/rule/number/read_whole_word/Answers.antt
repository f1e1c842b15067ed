use Rattle.cj_spans.specs.View.{tree}
use Rattle.cj_geometry.proofs.Numbers.{whole-kind, word-there-if}
use Rattle.cj_geometry.proofs.rule.number.read_whole_word.Goals as goal

pub returns : goal.returns
returns c =
    let span = c.span-start.ensures in
    word-there-if (tree c.args.node) _ _ c.line.ensures span.order span.spelling span.kind _
    (whole-kind (tree c.args.node) _ c.requires.1) c.read_word_in.ensures
