use Rattle.cj_stream.proofs.Common.{always_returns_same, compare_keys, is_lt, key_at, rules}
use Rattle.std.proofs.lemmas.List.Sorted.{IsPermutation-put_mid, ranks_by}
use Rattle.cj_stream.proofs.IdLemmas.{keys_total, keys_ascend, drop_put}
use Rattle.cj_stream.proofs.query.ids.sort_from.Goals as goal

pub returns-clause-moved : goal.returns-clause-moved
returns-clause-moved c =
    IsPermutation-put_mid _ _ _
    _ c.sort_unstable_by.ensures.permutation

pub returns-clause-ascends : goal.returns-clause-ascends
returns-clause-ascends c =
    let text = c.args.text.now in
    rw (drop_put c.args.start c.args.entries.now c.sort_unstable_by.new.self c.requires)
    (keys_ascend _ _ (c.sort_unstable_by.ensures.sorted (λ a b. is_lt (compare_keys (key_at text a) (key_at text b)))
    (ranks_by keys_total (key_at text)) (always_returns_same _ _ _ (λ a r g h. search rules))))
