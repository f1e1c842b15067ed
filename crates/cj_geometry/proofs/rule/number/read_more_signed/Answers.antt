use Rattle.cj_geometry.proofs.Common.{line_of, sym, tree, ◌∙◌}
use Rattle.cj_geometry.proofs.Numbers.{few-signed-read}
use Rattle.cj_geometry.proofs.rule.number.read_more_signed.Goals as goal

pub returns-in-Number : goal.returns-in-Number
returns-in-Number c =
    few-signed-read (line_of c.args.node) (tree c.args.node) (sym c.kind.ensures ∙ c.in-Number.is) _
    c.bytes-bytes.ensures.spelling _ c.read_few_signed.ensures.answer
