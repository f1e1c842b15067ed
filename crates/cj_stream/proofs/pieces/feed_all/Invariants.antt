use Rattle.cj_stream.proofs.Common.{[], map, rules_of, ◌≤◌}
use Rattle.cj_stream.proofs.NoteLemmas.{IsGiven}
use Rattle.cj_stream.proofs.pieces.feed_all.Given as goal

abbrev pub invariant-loop-taken : goal.invariant-loop-taken
invariant-loop-taken g l = record {
  given : IsGiven g.S.LineSink.law g.N.ReportSink.notes (rules_of l.initial.engine) [] 0
      (map (λ piece. piece.now) l.pieces) l.taken l.engine l.initial.sink l.sink l.initial.reports l.reports;
  counts : g.S.LineSink.law.failures l.initial.sink ≤ g.S.LineSink.law.failures l.sink;
}
