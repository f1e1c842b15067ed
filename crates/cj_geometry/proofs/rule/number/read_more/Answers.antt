use Rattle.cj_geometry.proofs.Common.{line_of, sym, tree, ◌∙◌}
use Rattle.cj_geometry.proofs.Numbers.{few-read}
use Rattle.cj_geometry.proofs.rule.number.read_more.Goals as goal

pub returns-in-Number : goal.returns-in-Number
returns-in-Number c =
    few-read (line_of c.args.node) (tree c.args.node) (sym c.kind.ensures ∙ c.in-Number.is) _
    c.bytes-bytes.ensures.spelling _ c.read_few.ensures.answer c.read_few.ensures.small
