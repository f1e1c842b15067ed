use Rattle.cj_stream.proofs.Common.{drop, is_one_of, map, string_bytes, tree, ◌≡◌}
use Rattle.cj_stream.proofs.query.holding.is_one_of.Given as goal

abbrev pub invariant-loop-text : goal.invariant-loop-text
invariant-loop-text l = is_one_of (map string_bytes (drop l.text-index l.texts)) (tree l.node)
    ≡ is_one_of (map string_bytes l.texts) (tree l.node)
