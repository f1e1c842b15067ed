use Rattle.cj_geometry.proofs.Common.{line_of, sym, tree, ◌∙◌}
use Rattle.cj_geometry.proofs.Numbers.{whole-read}
use Rattle.cj_geometry.proofs.rule.number.read_any_whole.Goals as goal

pub returns-in-Ok : goal.returns-in-Ok
returns-in-Ok c =
    sym (whole-read (line_of c.args.node) (tree c.args.node) (sym c.kind.ensures ∙ c.in-Number.is) _
    c.bytes.ensures.spelling _ _ c.read_whole.ensures.answer c.in-Ok.is)

pub returns-in-Err : goal.returns-in-Err
returns-in-Err c =
    sym (whole-read (line_of c.args.node) (tree c.args.node) (sym c.kind.ensures ∙ c.in-Number.is) _
    c.bytes.ensures.spelling _ _ c.read_whole.ensures.answer c.in-Err.is)
