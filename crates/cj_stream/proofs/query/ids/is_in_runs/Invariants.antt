use Rattle.cj_stream.proofs.Common.{AreRuns, compare_keys, drop, is_eq, key_of, keys_at, list_any, text_of, tree, ◌≡◌}
use Rattle.cj_stream.proofs.query.ids.is_in_runs.Given as goal

abbrev pub invariant-loop-length : goal.invariant-loop-length
invariant-loop-length l = record {
  ordered : AreRuns (keys_at l.text l.rest) (drop l.length-index l.runs);
  same : list_any (λ key. is_eq (compare_keys key (key_of (text_of (tree l.node))))) (keys_at l.text l.rest)
      ≡ list_any (λ key. is_eq (compare_keys key (key_of (text_of (tree l.node))))) (keys_at l.text l.entries);
}
