use Rattle.cj_stream.proofs.Common.{lines_of, line_end, map, rules_of}
use Rattle.cj_stream.proofs.CutLemmas.{Delivers-whole, lines-noted, lines-put}
use Rattle.cj_stream.proofs.line_pieces.put_lines.Goals as goal

pub returns-clause-puts : goal.returns-clause-puts
returns-clause-puts g c = λ p st.
    let e = c.feed_all.ensures in
    let r = c.feed_all.result in
    let n = c.feed_all.new.reader in
    lines-put (rules_of c.args.reader.now) p (lines_of c.args.reader.now) (st.going c.requires.going).0.lines
    g.S.LineSink.law c.args.sink.now c.feed_all.new.sink
    (map (λ piece. piece.now) c.args.pieces.now)
    r.taken (lines_of n) (e.fed p st).counts r.ended r.peaks (e.ends p st)
    (e.taken p st)

pub returns-clause-notes : goal.returns-clause-notes
returns-clause-notes g c = λ p st.
    let e = c.feed_all.ensures in
    let r = c.feed_all.result in
    lines-noted (rules_of c.args.reader.now) p (lines_of c.args.reader.now) (st.going c.requires.going).0.lines
    g.N.ReportSink.notes c.args.reports.now c.feed_all.new.reports (map (λ piece. piece.now) c.args.pieces.now)
    r.taken (lines_of c.feed_all.new.reader) (e.fed p st).counts.counted.good (e.reports p st) r.ended r.peaks
    (e.ends p st)

pub returns-clause-sink : goal.returns-clause-sink
returns-clause-sink g c = λ p st.
    let r = c.feed_all.result in
    Delivers-whole (rules_of c.args.reader.now) p (lines_of c.args.reader.now) (st.going c.requires.going).0.lines
    g.S.LineSink.law c.args.sink.now c.feed_all.new.sink
    (map (λ piece. piece.now) c.args.pieces.now)
    r.taken (lines_of c.feed_all.new.reader) (line_end r.ended) (c.feed_all.ensures.taken p st)
