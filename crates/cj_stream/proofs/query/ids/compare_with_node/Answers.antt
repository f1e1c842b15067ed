use Rattle.cj_stream.proofs.Common.{Equal, Some, ap, chars, compare_texts, nat_cmp, piece, text_of, tree, ◌∙◌, ◌≡◌}
use Rattle.std.specs.Ordering.{ordering_reverse}
use Rattle.cj_stream.proofs.IdLemmas.{compare_turned}
use Rattle.cj_stream.proofs.query.ids.compare_with_node.Goals as goal

pub returns-in-Equal : goal.returns-in-Equal
returns-in-Equal c =
    let text = text_of (tree c.args.node) in
    let numbers : nat_cmp c.args.entry.number c.args.number ≡ Equal = cc in
    c.reverse.ensures ∙ ap ordering_reverse
    (c.compare_with.ensures ∙ ap (λ s. compare_texts text (Some (chars s))) c.text_at.ensures)
    ∙ compare_turned c.args.entry.number c.args.number
    (chars (piece c.args.text.now c.args.entry.start c.args.entry.end)) text numbers
