use Rattle.cj_stream.proofs.Common.{map, rules_of, ◌+◌, BeginsWell, Keeps, channel, drop, joined, judged_lines, lines_of, output_failures, output_writer, outputs, subst, sym, take}
use Rattle.cj_stream.proofs.CutLemmas.{Copies-puts}
use Rattle.cj_stream.proofs.HeadlineLemmas.{Copies-writes, Copies-ends, Headline-said, NotesPieces-gives, begins-well}
use Rattle.cj_stream.proofs.LineLemmas.{joined-cut}
use Rattle.std.proofs.KnownBytes.{Keeps-refl}
use Rattle.cj_stream.proofs.pieces.headline.Goals as goal

pub returns-clause-headline : goal.returns-clause-headline
returns-clause-headline g c =
    let rules = rules_of c.args.engine.now in
    let pieces = map (λ piece. piece.now) c.args.pieces.now in
    let r = c.put_pieces.result in
    let said = c.put_pieces.ensures in
    let contents = g.W.Write.contents in
    let e = Copies-puts (λ s. contents (output_writer s)) output_failures rules pieces r.taken c.args.sink.now
    c.put_pieces.new.sink r.ended said.puts in
    Headline-said g.N.ReportSink.notes rules (joined pieces) (joined (take (r.taken + 1) pieces)) r.ended r.peaks
    (outputs (channel contents c.args.sink.now) c.args.reports.now)
    (outputs (channel contents c.put_pieces.new.sink) c.put_pieces.new.reports)
    (Copies-writes rules pieces r.taken _ _ r.ended e)
    (NotesPieces-gives g.N.ReportSink.notes rules pieces r.taken c.args.reports.now c.put_pieces.new.reports r.ended
    said.notes)
    (Copies-ends rules pieces r.taken _ _ r.ended e) said.cause
    (λ m. record {
      unwritten = subst (λ s. Keeps (contents (output_writer c.args.sink.now)) (contents (output_writer s)))
          (sym (said.memory m).1) (Keeps-refl _);
      unreported = (said.memory m).2;
      header = subst (λ s. BeginsWell (judged_lines rules s)) (joined-cut (r.taken + 1) pieces)
          (begins-well rules (joined (take (r.taken + 1) pieces)) (joined (drop (r.taken + 1) pieces))
          (lines_of c.put_pieces.new.engine) (said.fed.memory m));
    })
    said.fed.bounded said.fed.exact

pub returns-clause-copies : goal.returns-clause-copies
returns-clause-copies g c =
    Copies-puts (λ s. g.W.Write.contents (output_writer s)) output_failures (rules_of c.args.engine.now)
    (map (λ piece. piece.now) c.args.pieces.now) c.put_pieces.result.taken c.args.sink.now c.put_pieces.new.sink
    c.put_pieces.result.ended c.put_pieces.ensures.puts
