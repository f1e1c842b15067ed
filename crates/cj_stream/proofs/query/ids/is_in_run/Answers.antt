use Rattle.cj_stream.proofs.Common.{Key, always_returns_same, compare_keys, key_at, rules, text_of, tree, ◌∙◌}
use Rattle.cj_stream.proofs.IdLemmas.{found}
use Rattle.cj_stream.proofs.query.ids.is_in_run.Goals as goal

pub returns : goal.returns
returns c =
    let key : Key = record { number = c.args.number; text = text_of (tree c.args.node) } in
    c.is_ok.ensures.value ∙ found _ _ _ _ c.requires
    c.binary_search_by.ensures.bound (c.binary_search_by.ensures.position
    (λ entry. compare_keys (key_at c.args.text.now entry) key)
    (always_returns_same _ _ _ (λ a r g h. search rules)))
