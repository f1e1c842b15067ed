use Rattle.cj_stream.proofs.Common.{compare_keys, drop, is_eq, keys_at, list_any, text_of, tree, ◌≡◌}
use Rattle.cj_stream.proofs.query.ids.is_among.Given as goal

abbrev pub invariant-loop-entry : goal.invariant-loop-entry
invariant-loop-entry l =
    list_any (λ key. is_eq (compare_keys key (record { number = l.number; text = text_of (tree l.node) })))
    (keys_at l.text (drop l.entry-index l.entries))
    ≡ list_any (λ key. is_eq (compare_keys key (record { number = l.number; text = text_of (tree l.node) })))
    (keys_at l.text l.entries)
