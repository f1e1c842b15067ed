use Rattle.cj_stream.proofs.Common.{List, Reads, answer_of, begun, false, header_end, is_lenient, rules, ℕ}
use Rattle.cj_stream.proofs.FinishLemmas.{ok-answer, ok-then, finishes-with, scanned-last}
use Rattle.cj_stream.proofs.PieceLemmas.{Handles-begun, Handles-first}
use Rattle.cj_stream.proofs.ReadingLemmas.{has-begun}
use Rattle.cj_stream.proofs.line_splitter.LineSplitter.finish_first.Goals as goal

pub returns-then-has_begun-clause-finishes : goal.returns-then-has_begun-clause-finishes
returns-then-has_begun-clause-finishes g c =
    let f = c.args.self.now.reading in
    let some = λ (p : List ℕ) (reads : Reads c.args.self.now.reading p). has-begun f (begun p) reads.begun
    (c.has_begun.ensures.some c.if-has_begun.true) in
    let handles = Handles-first g.S.LineSink.law f c.handle_first.new.self.reading c.args.sink.now
    c.handle_first.new.sink _ _ (answer_of header_end c.handle_first.result) c.requires.first
    c.handle_first.ensures.handles in
    record {
      answers = λ p reads. finishes-with g.S.LineSink.law (begun p) f c.handle_first.new.self.reading
          c.args.sink.now c.handle_first.new.sink (answer_of header_end c.handle_first.result) (some p reads)
          (Handles-begun g.S.LineSink.law (is_lenient f) f c.handle_first.new.self.reading c.args.sink.now
          c.handle_first.new.sink (begun p) false (answer_of header_end c.handle_first.result) reads.begun handles);
      scanned = ok-answer header_end _ c.handle_first.result
          (ok-then _ _ c.handle_first.result (λ handled p reads s. scanned-last f p c.args.self.now.scanning
          c.handle_first.new.self.scanning reads (some p reads) s handled) c.handle_first.ensures.scanned);
      held = search rules;
    }
