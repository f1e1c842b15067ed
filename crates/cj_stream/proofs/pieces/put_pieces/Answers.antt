use Rattle.cj_stream.proofs.Common.{joined, map, rules_of, take, ◌+◌, [], lines_of, refl}
use Rattle.cj_stream.proofs.CutLemmas.{unread-at, Delivers-whole, PutsPieces-ends, CountsAll-ends}
use Rattle.cj_stream.proofs.NoteLemmas.{NotesRun-said, NotesPieces-said, noted-none}
use Rattle.cj_stream.proofs.RunLemmas.{memory-sink}
use Rattle.cj_stream.proofs.pieces.put_pieces.Goals as goal

pub returns : goal.returns
returns g c =
    let e = c.feed_all.ensures in
    let r = c.feed_all.result in
    let rules = rules_of c.args.engine.now in
    let pieces = map (λ piece. piece.now) c.args.pieces.now in
    let given = joined (take (c.feed_all.result.taken + 1) (map (λ piece. piece.now) c.args.pieces.now)) in
    let unread = unread-at rules [] pieces r.taken r.ended e.fed.at in
    let sink = Delivers-whole rules [] 0 refl g.S.LineSink.law c.args.sink.now c.feed_all.new.sink pieces r.taken
    (lines_of c.feed_all.new.engine) r.ended e.taken in
    let noted = NotesRun-said g.N.ReportSink.notes rules given _ (lines_of c.feed_all.new.engine) _ _
    e.fed.counts.counted.good e.reports r.ended e.ends (λ lacks. (e.fed.memory lacks).none) in
    record {
      fed = e.fed;
      puts = PutsPieces-ends g.S.LineSink.law rules pieces r.taken _ _ _ _ _ e.fed.counts r.ended e.ends sink e.taken
          unread;
      notes = NotesPieces-said g.N.ReportSink.notes rules pieces r.taken _ _ _ r.ended e.ends
          (λ h. let k = rw h at unread in k) (λ h. let k = rw h at unread in k) noted;
      sink = sink;
      reports = e.reports;
      counts = CountsAll-ends rules _ _ _ _ pieces r.taken r.ended e.fed.counts e.ends unread;
      cause = e.cause;
      growth = e.growth;
      memory = λ lacks. (
        (e.fed.memory lacks).none,
        memory-sink g.S.LineSink.law rules given _ _ _ r.ended lacks (e.fed.memory lacks).none sink,
        noted-none g.N.ReportSink.notes rules given _ _ r.ended lacks noted,
      );
    }
