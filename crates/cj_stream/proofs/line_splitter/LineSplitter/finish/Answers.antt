use Rattle.cj_stream.proofs.Common.{List, Reads, answer_of, begun, false, is_lenient, line_end, rules, sym, ℕ, ◌∙◌}
use Rattle.cj_stream.proofs.FinishLemmas.{err-answer, ok-answer, ok-then, finishes-with, scanned-last, scanned-closed}
use Rattle.cj_stream.proofs.NoteLemmas.{Notes-finished}
use Rattle.cj_stream.proofs.PieceLemmas.{Handles-begun}
use Rattle.cj_stream.proofs.ReadingLemmas.{has-begun, held-whole}
use Rattle.cj_stream.proofs.line_splitter.LineSplitter.finish.Goals as goal

pub returns-then-has_begun-clause-finishes : goal.returns-then-has_begun-clause-finishes
returns-then-has_begun-clause-finishes g c =
    let f = c.args.self.now.reading in
    let some = λ (p : List ℕ) (reads : Reads c.args.self.now.reading p). has-begun f (begun p) reads.begun
    (c.has_begun.ensures.some c.if-has_begun.true) in
    record {
      answers = λ p reads. finishes-with g.S.LineSink.law (begun p) f c.handle_line.new.self.reading c.args.sink.now
          c.handle_line.new.sink (answer_of line_end c.handle_line.result) (some p reads)
          (Handles-begun g.S.LineSink.law (is_lenient f) f
          c.handle_line.new.self.reading c.args.sink.now c.handle_line.new.sink (begun p) false
          (answer_of line_end c.handle_line.result)
          reads.begun
          c.handle_line.ensures.handles);
      scanned = ok-answer line_end _ c.handle_line.result
          (ok-then _ _ c.handle_line.result (λ scan p reads s. scanned-last f p c.args.self.now.scanning
          c.handle_line.new.self.scanning reads (some p reads) s scan) c.handle_line.ensures.scanned);
      held = search rules;
    }

pub returns-then-has_begun-clause-reports : goal.returns-then-has_begun-clause-reports
returns-then-has_begun-clause-reports g c = λ p reads.
    let f = c.args.self.now.reading in
    let some = has-begun f (begun p) reads.begun (c.has_begun.ensures.some c.if-has_begun.true) in
    Notes-finished g.N.ReportSink.notes g.S.LineSink.law _ _ _ f c.handle_line.new.self.reading c.args.sink.now
    c.handle_line.new.sink
    p c.args.reports.now c.handle_line.new.reports (answer_of line_end c.handle_line.result)
    reads some c.handle_line.ensures.handles (ok-answer line_end _ c.handle_line.result c.handle_line.ensures.one)
    (ok-answer line_end _ c.handle_line.result c.handle_line.ensures.noted)
    (err-answer line_end _ c.handle_line.result c.handle_line.ensures.silent)

pub returns-clause-finishes : goal.returns-clause-finishes
returns-clause-finishes g c = record {
  answers = search rules;
  scanned = λ p reads s.
      let none = c.has_begun.ensures.none c.if-has_begun.false in
      scanned-closed _ p _ (sym (held-whole c.args.self.now.reading (begun p) reads.begun none.1).0 ∙ none.0) s;
  held = search rules;
}
