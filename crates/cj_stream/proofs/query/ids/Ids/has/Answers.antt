use Rattle.cj_stream.proofs.Common.{Bool, Key, ap, compare_keys, is_eq, is_one_of, key_of, keys_at, list_any, pieces, string_bytes, sym, text_of, tree, ◌∙◌}
use Rattle.std.proofs.lemmas.List.Sorted.{list_any-IsPermutation}
use Rattle.cj_stream.proofs.IdLemmas.{has_key}
use Rattle.cj_stream.proofs.query.ids.Ids.has.Goals as goal

pub returns : goal.returns
returns c =
    let t = tree c.args.node in
    let bytes = string_bytes c.self.inside.text in
    let ids = pieces bytes c.self.inside.lengths.items in
    let entries = c.self.inside.entries.items in
    let test : Key → Bool = λ key. is_eq (compare_keys key (key_of (text_of t))) in
    c.is_in_runs.ensures ∙ ap (list_any test) (ap (λ t. keys_at t c.as_slice-2.result.now) c.as_str.ensures.value
    ∙ ap (keys_at bytes) c.as_slice-2.ensures.value)
    ∙ sym (list_any-IsPermutation _ _ _ c.self.invariant.each)
    ∙ has_key _ t ∙ ap (λ texts. is_one_of texts t) c.self.view_is
