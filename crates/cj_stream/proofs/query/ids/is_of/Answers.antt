use Rattle.cj_stream.proofs.Common.{Some, ap, are_same_texts, chars, compare_keys, is_eq, key_at, piece, text_of, tree, ◌∙◌, ◌≡◌}
use Rattle.cj_stream.proofs.IdLemmas.{same_beside}
use Rattle.cj_stream.proofs.query.ids.is_of.Goals as goal

pub returns-then-entry-number : goal.returns-then-entry-number
returns-then-entry-number c =
    let text = text_of (tree c.args.node) in
    let numbers : c.args.entry.number ≡ c.args.number = cc in
    c.text_is.ensures.test ∙ ap (λ s. are_same_texts text (Some (chars s))) c.text_at.ensures
    ∙ same_beside c.args.entry.number (chars (piece c.args.text.now c.args.entry.start c.args.entry.end)) text
    ∙ ap (λ n. is_eq (compare_keys (key_at c.args.text.now c.args.entry) (record { number = n; text = text }))) numbers
