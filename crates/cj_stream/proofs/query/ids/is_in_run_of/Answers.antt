use Rattle.cj_stream.proofs.Common.{text_of, tree, ◌∙◌}
use Rattle.cj_stream.proofs.IdLemmas.{numbers_rise, part_keys}
use Rattle.cj_stream.proofs.query.ids.is_in_run_of.Goals as goal

pub part_of-requires : goal.part_of-requires
part_of-requires c = numbers_rise _ _ c.requires

pub returns-in-Some : goal.returns-in-Some
returns-in-Some c =
    c.is_among.ensures ∙ part_keys _ (record { number = c.args.number; text = text_of (tree c.args.node) }) _ _
    c.in-Some.ensures
