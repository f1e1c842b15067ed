use Rattle.cj_stream.proofs.Common.{IsReady, List, Notes, Reads, Rises, Stays, TakesAll, length, stretch, with_sink, ℕ, ◌++◌, ◌+◌, ◌≡◌, ◌≤◌}
use Rattle.cj_stream.proofs.line_splitter.LineSplitter.take_piece.Given as goal

abbrev pub invariant-loop-at : goal.invariant-loop-at
invariant-loop-at g l = record {
  stays : Stays l.initial.self.reading l.self.reading;
  rises : Rises l.initial.self.scanning l.self.scanning;
  ready : IsReady l.self.reading l.self.scanning;
  few : l.self.reading.lines + length l.rest ≤ l.initial.self.reading.lines + length l.piece;
  grows : l.initial.self.reading.lines ≤ l.self.reading.lines;
  counts : g.S.LineSink.law.failures l.initial.sink ≤ g.S.LineSink.law.failures l.sink;
  read : (done : List ℕ) × (l.piece ≡ done ++ l.rest)
      × TakesAll g.S.LineSink.law done (with_sink l.initial.self l.initial.sink) (with_sink l.self l.sink);
  reports : (p : List ℕ) → Reads l.initial.self.reading p → Notes g.N.ReportSink.notes
      (stretch l.initial.self.reading.rules (p ++ l.piece) l.initial.self.reading.lines l.self.reading.lines)
      l.initial.reports l.reports;
}

abbrev pub decreases-loop-at : goal.decreases-loop-at
decreases-loop-at g l = length l.rest
