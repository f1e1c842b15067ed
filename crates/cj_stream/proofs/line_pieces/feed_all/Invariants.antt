use Rattle.cj_stream.proofs.Common.{List, None, StandsFor, joined, length, lines_of, map, rules_of, take, ℕ, ◌+◌, ◌≡◌, ◌≤◌}
use Rattle.cj_stream.proofs.NoteLemmas.{IsGiven}
use Rattle.cj_stream.proofs.line_pieces.feed_all.Given as goal

abbrev pub invariant-loop-taken : goal.invariant-loop-taken
invariant-loop-taken g l = record {
  going : l.reader.ended ≡ None;
  taken : l.reader.taken
      ≡ l.initial.reader.taken + length (joined (take l.taken (map (λ piece. piece.now) l.pieces)));
  given : (p : List ℕ) → StandsFor l.initial.reader p
      → IsGiven g.S.LineSink.law g.N.ReportSink.notes (rules_of l.initial.reader) p (lines_of l.initial.reader)
      (map (λ piece. piece.now) l.pieces) l.taken l.reader l.initial.sink l.sink l.initial.reports l.reports;
  counts : g.S.LineSink.law.failures l.initial.sink ≤ g.S.LineSink.law.failures l.sink;
}
