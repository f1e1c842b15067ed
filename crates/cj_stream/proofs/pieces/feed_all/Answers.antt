use Rattle.cj_stream.proofs.Common.{Err, [], ap, arith, get_or, length-map, refl, sym, length, rules_of}
use Rattle.cj_stream.proofs.NoteLemmas.{Given-none, Given-next, Given-fed, Given-finished}
use Rattle.cj_stream.proofs.LineLemmas.{joined-more, joined-short}
use Rattle.cj_stream.proofs.RunLemmas.{HasRisen-after, fails-grown}
use Rattle.cj_stream.proofs.pieces.feed_all.Goals as goal

pub feed-requires : goal.feed-requires
feed-requires g c =
    let i = c.loop-taken.invariant.given in
    let short = joined-short (λ piece. piece.now) c.args.pieces.now c.loop-taken.taken
    (record { ref_ptr = (0, 0); now = [] }) (omega arith) in
    omega (arith, (i.stands.going i.going).2, short, c.requires.short)

pub loop-taken-init : goal.loop-taken-init
loop-taken-init g c = record {
  given = Given-none _ _ _ _ 0 _ _ _ _
      c.requires.fresh.1 refl (c.requires.fresh.0.going c.requires.fresh.1).0.lines c.requires.fresh.0;
  counts = omega arith;
}

pub loop-taken-preserved : goal.loop-taken-preserved
loop-taken-preserved g c =
    let piece = get_or c.args.pieces.now c.loop-taken.taken (record { ref_ptr = (0, 0); now = [] }) in
    let next = joined-more (λ piece. piece.now) c.args.pieces.now c.loop-taken.taken
    (record { ref_ptr = (0, 0); now = [] }) (omega arith) in
    record {
      given = Given-next g.S.LineSink.law g.N.ReportSink.notes (rules_of c.args.engine.now) [] 0 _
          c.loop-taken.invariant.given piece.now next c.feed.new.self c.feed.new.sink c.feed.new.reports
          c.feed.ensures.reports c.in_default.ensures.feeds;
      counts = omega (arith, c.loop-taken.invariant.counts, c.feed.ensures.feeds.counts);
    }

pub returns-in-Err : goal.returns-in-Err
returns-in-Err g c =
    let piece = get_or c.args.pieces.now c.loop-taken.taken (record { ref_ptr = (0, 0); now = [] }) in
    let next = joined-more (λ piece. piece.now) c.args.pieces.now c.loop-taken.taken
    (record { ref_ptr = (0, 0); now = [] }) (omega arith) in
    let all = Given-fed g.S.LineSink.law g.N.ReportSink.notes (rules_of c.args.engine.now) [] 0 _
    c.loop-taken.invariant.given piece.now next c.feed.new.self c.feed.new.sink c.feed.new.reports
    c.feed.ensures.reports c.in-Err.ended (omega (arith, length-map c.args.pieces.now (λ piece. piece.now)))
    c.in-Err.ensures.untaken c.in-Err.ensures.feeds in
    record {
      fed = rw c.peaks.ensures all.fed;
      ends = all.ends;
      taken = all.taken;
      reports = all.noted;
      cause = λ e. HasRisen-after _ _ _ c.loop-taken.invariant.counts
          (c.in-Err.ensures.feeds.cause c.loop-taken.invariant.given.going (ap Err e));
      growth = λ e. fails-grown c.loop-taken.engine c.feed.new.self
          (c.in-Err.ensures.feeds.growth c.loop-taken.invariant.given.going (ap Err e));
    }

pub returns : goal.returns
returns g c =
    let all = Given-finished g.S.LineSink.law g.N.ReportSink.notes (rules_of c.args.engine.now) [] 0 _
    c.loop-taken.invariant.given (length c.args.pieces.now) c.finish-ended.result c.finish-ended.new.self
    c.finish-ended.new.sink c.finish-ended.new.reports (omega arith)
    (sym (length-map c.args.pieces.now (λ piece. piece.now))) c.finish-ended.ensures.untaken
    c.finish-ended.ensures.reports c.finish-ended.ensures.finished in
    record {
      fed = rw c.peaks-2.ensures all.fed;
      ends = all.ends;
      taken = all.taken;
      reports = all.noted;
      cause = λ e. HasRisen-after _ _ _ c.loop-taken.invariant.counts
          (c.finish-ended.ensures.finished.cause c.loop-taken.invariant.given.going e);
      growth = λ e. absurd (c.finish-ended.ensures.finished.memory c.loop-taken.invariant.given.going e);
    }
