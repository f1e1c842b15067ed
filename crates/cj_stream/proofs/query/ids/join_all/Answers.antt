use Rattle.cj_stream.proofs.Common.{[], ap, length, refl, ◌++◌, ◌∙◌, ◌∷◌}
use Rattle.cj_stream.proofs.IdLemmas.{indexed_whole}
use Rattle.cj_stream.proofs.query.ids.join_all.Goals as goal

pub returns : goal.returns
returns c =
    let text = c.args.text.now in
    let lengths = c.args.lengths.now in
    let sorted = c.sort_from.new.entries in
    rw (c.put.ensures ∙ ap (λ ns. ns ++ length sorted ∷ []) c.clear.ensures.items)
    (indexed_whole _ _ _ _ _ _ c.requires
    c.sort_from.ensures.moved c.sort_from.ensures.ascends refl)
