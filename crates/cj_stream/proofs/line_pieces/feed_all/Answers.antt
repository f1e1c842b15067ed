use Rattle.cj_stream.proofs.Common.{Err, [], ap, arith, get_or, joined, length-append, length-map, line_end, map, refl, sym, take, List, StandsFor, length, lines_of, rules_of, ℕ}
use Rattle.cj_stream.proofs.NoteLemmas.{Given-none, Given-next, Given-fed, Given-finished}
use Rattle.cj_stream.proofs.LineLemmas.{joined-more, joined-short}
use Rattle.cj_stream.proofs.RunLemmas.{HasRisen-after}
use Rattle.cj_stream.proofs.line_pieces.feed_all.Goals as goal

pub feed-requires : goal.feed-requires
feed-requires g c =
    let short = joined-short (λ piece. piece.now) c.args.pieces.now c.loop-taken.taken
    (record { ref_ptr = (0, 0); now = [] }) (omega arith) in
    omega (arith, c.loop-taken.invariant.taken, short, c.requires.short)

pub loop-taken-init : goal.loop-taken-init
loop-taken-init g c = record {
  going = c.requires.going;
  taken = omega arith;
  given = λ p st. Given-none _ _ _ p
      _ _ _ _ _ c.requires.going refl refl st;
  counts = omega arith;
}

pub loop-taken-preserved : goal.loop-taken-preserved
loop-taken-preserved g c =
    let i = c.loop-taken.invariant in
    let piece = get_or c.args.pieces.now c.loop-taken.taken (record { ref_ptr = (0, 0); now = [] }) in
    let before = joined (take c.loop-taken.taken (map (λ piece. piece.now) c.args.pieces.now)) in
    let next = joined-more (λ piece. piece.now) c.args.pieces.now c.loop-taken.taken
    (record { ref_ptr = (0, 0); now = [] }) (omega arith) in
    record {
      going = c.in_default.ensures.feeds.unended;
      taken = rw next (omega (arith, i.taken, c.in_default.ensures.taken, length-append before piece.now));
      given = λ p st. Given-next g.S.LineSink.law g.N.ReportSink.notes (rules_of c.args.reader.now) p
          (lines_of c.args.reader.now) _ (i.given p st) piece.now next c.feed.new.self c.feed.new.sink
          c.feed.new.reports c.feed.ensures.reports c.in_default.ensures.feeds;
      counts = omega (arith, i.counts, c.in_default.ensures.feeds.counts);
    }

pub returns-in-Err : goal.returns-in-Err
returns-in-Err g c =
    let i = c.loop-taken.invariant in
    let piece = get_or c.args.pieces.now c.loop-taken.taken (record { ref_ptr = (0, 0); now = [] }) in
    let next = joined-more (λ piece. piece.now) c.args.pieces.now c.loop-taken.taken
    (record { ref_ptr = (0, 0); now = [] }) (omega arith) in
    let all = λ (p : List ℕ) (st : StandsFor c.args.reader.now p).
    Given-fed g.S.LineSink.law g.N.ReportSink.notes (rules_of c.args.reader.now) p (lines_of c.args.reader.now) _
    (i.given p st) piece.now next c.feed.new.self c.feed.new.sink c.feed.new.reports c.feed.ensures.reports
    (line_end c.in-Err.ended) (omega (arith, length-map c.args.pieces.now (λ piece. piece.now)))
    c.in-Err.ensures.untaken c.in-Err.ensures.feeds in
    record {
      fed = λ p st. rw c.peaks.ensures (all p st).fed;
      ends = λ p st. (all p st).ends;
      taken = λ p st. (all p st).taken;
      reports = λ p st. (all p st).noted;
      cause = λ e. HasRisen-after _ _ _ i.counts (c.in-Err.ensures.feeds.cause i.going (ap (λ z. Err (line_end z)) e));
    }

pub returns : goal.returns
returns g c =
    let i = c.loop-taken.invariant in
    let all = λ (p : List ℕ) (st : StandsFor c.args.reader.now p).
    Given-finished g.S.LineSink.law g.N.ReportSink.notes (rules_of c.args.reader.now) p
    (lines_of c.args.reader.now) _ (i.given p st) (length c.args.pieces.now) (line_end c.finish-ended.result)
    c.finish-ended.new.self c.finish-ended.new.sink c.finish-ended.new.reports (omega arith)
    (sym (length-map c.args.pieces.now (λ piece. piece.now))) c.finish-ended.ensures.untaken
    c.finish-ended.ensures.reports c.finish-ended.ensures.finished in
    record {
      fed = λ p st. rw c.peaks-2.ensures (all p st).fed;
      ends = λ p st. (all p st).ends;
      taken = λ p st. (all p st).taken;
      reports = λ p st. (all p st).noted;
      cause = λ e. HasRisen-after _ _ _ i.counts (c.finish-ended.ensures.finished.cause i.going (ap line_end e));
    }
