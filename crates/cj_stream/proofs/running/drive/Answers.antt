use Rattle.cj_stream.proofs.Common.{Err, Run, ap, append-nil, arith, inr, is_err, length, length-append, length-take, lines_of, outcome_of, refl, rules_of, sym, take, ◌++◌, ◌+◌, ◌∙◌, IsAtEnd, Memory, ReadFault, ReadLimit, [], ◌≡◌}
use Rattle.cj_stream.proofs.RunLemmas.{Delivers-then, Ends-finished, Ends-fed, whole-good, HasRisen-after, said-not_complete, Gave-finished, Gave-fed, last-none, last-piece, least-going, begun-judged, stops-after}
use Rattle.cj_stream.proofs.FeedingLemmas.{begun-held}
use Rattle.cj_stream.proofs.CutLemmas.{unread-said, unread-concludes}
use Rattle.cj_stream.proofs.TookLemmas.{first-same, More-over, More-then, over-reported}
use Rattle.cj_stream.proofs.NoteLemmas.{Both-left, Both-said}
use Rattle.cj_stream.proofs.FinishLemmas.{unfailed-end, unfailed-limit, unread-limit}
use Rattle.std.proofs.KnownBytes.{Consumes-trans, Consumes-kept}
use Rattle.cj_stream.specs.Source.{source_reader}
use Rattle.cj_stream.proofs.running.drive.Goals as goal

pub returns-in-Err-clause-runs : goal.returns-in-Err-clause-runs
returns-in-Err-clause-runs g c =
    let i = c.loop-i.invariant in
    let r = i.5.0 in
    let stands = i.5.2 in
    let both = Both-left g.S.LineSink.law g.N.ReportSink.notes c.loop-i.engine (rules_of c.args.engine.now) r
    (IsAtEnd (g.R.Read.remaining (source_reader c.read.new.self))) _ _ _ _ ReadFault i.3 (λ h. cc) (λ h. cc)
    (whole-good c.loop-i.engine r (stands.going i.2).0) (λ m u e. e) stands i.5.3 i.5.5 in (
      r,
      Consumes-kept _ _ _ r i.5.1 c.in-Err.ensures.bytes,
      record {
        giving = c.loop-i._i;
        gave = omega arith;
        least = i.5.4;
        most = omega (arith, i.1, (stands.going i.2).2);
      },
      both.0,
      both.1,
      stops-after c.loop-i.engine.reading _ r [] (stands.going i.2).0 i.3 (sym (append-nil r)) refl (omega arith)
          (λ h. cc)
          (let k = least-going c.loop-i.engine r (stands.going i.2).0 (stands.going i.2).1 in rw i.3 at k)
          (let k = begun-held c.loop-i.engine.reading r (stands.going i.2).0 in rw i.3 at k),
    )

pub returns-in-Ok-eq0-clause-runs : goal.returns-in-Ok-eq0-clause-runs
returns-in-Ok-eq0-clause-runs g c =
    let i = c.loop-i.invariant in
    let r = i.5.0 in
    let finished = c.finish.ensures.finished in
    let stands = finished.stands r i.5.2 in
    let run : Run =
    record { rules = rules_of c.args.engine.now; read = r; outcome = outcome_of c.finish.new.self c.finish.result } in
    let unread = unread-concludes _ r _ c.finish.result (finished.concludes r i.5.2 i.2) in
    let both = Both-said g.S.LineSink.law g.N.ReportSink.notes run
    (IsAtEnd (g.R.Read.remaining (source_reader c.read.new.self))) c.args.sink.now c.finish.new.sink c.args.reports.now
    c.finish.new.reports
    (record {
      bounded = let k = stands.bounded in rw (finished.rules, i.3) at k;
      exact = λ h. let k = finished.exact r i.5.2 i.2 h in rw i.3 at k;
      counts = let k = stands.counts in rw (finished.rules, i.3) at k;
      ends = Ends-finished _ r _ _ c.finish.result
          (c.in-Ok-eq0.ensures.bytes.1 c.in-Ok-eq0.field-0-test (omega (arith, c.read.auto.buffer, i.0)))
          (let k = finished.concludes r i.5.2 i.2 in rw i.3 at k);
    })
    (λ h. absurd (finished.memory i.2 h))
    (let k = finished.sink r i.5.2 i.2 in
    let j = rw (i.3, finished.ended) at k in
    Delivers-then refl i.5.3 j)
    (let k = c.finish.ensures.reports r i.5.2 i.2 in
    More-then g.N.ReportSink.notes over-reported i.5.5 (rw i.3 at k)) in (
      r,
      let k = Consumes-trans _ _ _ r (take c.in-Ok-eq0.field-0 c.read.new.buffer) i.5.1 c.in-Ok-eq0.ensures.bytes.0 in
          rw (c.in-Ok-eq0.field-0-test, append-nil r) at k,
      record {
        giving = c.loop-i._i;
        gave = Gave-finished _ _ c.finish.result (omega arith) unread;
        least = i.5.4;
        most = omega (arith, i.1, (i.5.2.going i.2).2);
      },
      both.0,
      both.1,
      stops-after c.loop-i.engine.reading _ r [] (i.5.2.going i.2).0 i.3 (sym (append-nil r))
          (last-none c.finish.result) (finished.onward r i.5.2) (λ h. absurd (finished.memory i.2 h))
          (let k = finished.least r i.5.2 i.2 in rw i.3 at k) (begun-judged run c.finish.result unread),
    )

pub returns-in-Ok-eq0-clause-cause : goal.returns-in-Ok-eq0-clause-cause
returns-in-Ok-eq0-clause-cause g c =
    λ e. HasRisen-after _ _ _ c.loop-i.invariant.4 (c.finish.ensures.finished.cause c.loop-i.invariant.2 e)

pub returns-in-Err-feed-clause-runs : goal.returns-in-Err-feed-clause-runs
returns-in-Err-feed-clause-runs g c =
    let i = c.loop-i.invariant in
    let r = i.5.0 in
    let piece = take c.in-Ok.n c.read.new.buffer in
    let e = c.loop-i.engine in
    let feeds = c.in-Err-feed.ensures.feeds in
    let grown : length (r ++ piece) ≡ length r + c.in-Ok.n = length-append r piece
    ∙ ap (λ n. length r + n) (sym c.in-Ok.ensures.bound.1) in
    let stands = feeds.stands r i.5.2 in
    let said = feeds.said r i.5.2 i.2 in
    let lacks = λ (h : c.in-Err-feed.end ≡ Memory).
    (feeds.memory r i.5.2 i.2 (ap Err h)).0 in
    let same = first-same (rules_of c.args.engine.now) (lines_of e) r piece (i.5.2.going i.2).0.lines in
    let run : Run =
    record {
      rules = rules_of c.args.engine.now;
      read = r ++ piece;
      outcome = outcome_of c.feed.new.self
          c.in-Err-feed.end;
    } in
    let both = Both-said g.S.LineSink.law g.N.ReportSink.notes run
    (IsAtEnd (g.R.Read.remaining (source_reader c.read.new.self))) c.args.sink.now c.feed.new.sink c.args.reports.now
    c.feed.new.reports
    (record {
      bounded = let k = stands.bounded in rw (i.2, feeds.rules, i.3) at k;
      exact = λ h. absurd (said-not_complete (rules_of e) (r ++ piece) (lines_of c.feed.new.self) c.in-Err-feed.end said
          h);
      counts = let k = stands.counts in rw (i.2, feeds.rules, i.3) at k;
      ends = Ends-fed _ (r ++ piece) _ _ c.in-Err-feed.end (rw i.3 at said);
    })
    (λ h. (lacks h).none)
    (let k = feeds.sink r i.5.2 i.2 in
    let j = rw (i.3, feeds.ended) at k in
    Delivers-then same i.5.3 j)
    (let k = c.feed.ensures.reports r i.5.2 i.2 in
    More-then g.N.ReportSink.notes over-reported (More-over g.N.ReportSink.notes over-reported refl same i.5.5)
    (rw i.3 at k)) in (
      r ++ piece,
      Consumes-trans _ _ _ r piece i.5.1 c.in-Ok.ensures.bytes.0,
      record {
        giving = c.loop-i._i + 1;
        gave = Gave-fed _ (r ++ piece) _ _ _ c.in-Err-feed.end (omega arith) said;
        least = omega (arith, i.5.4, grown);
        most = omega (arith, i.1, (i.5.2.going i.2).2, grown, c.in-Ok.ensures.bound.0, c.read.auto.buffer, i.0);
      },
      both.0,
      both.1,
      stops-after e.reading _ r piece (i.5.2.going i.2).0 i.3 refl
          (last-piece _ (r ++ piece) _ c.in-Err-feed.end piece said
          (omega (arith, c.in-Ok.ensures.bound.0, c.in-Ok.ensures.bound.1, c.read.auto.buffer, i.0)))
          (feeds.onward r i.5.2) (λ h. inr (let k = lacks h in rw i.3 at k))
          (let k = feeds.least r i.5.2 i.2 in rw i.3 at k)
          (begun-judged run c.in-Err-feed.end (unread-said _ (r ++ piece) _ c.in-Err-feed.end said)),
    )

pub returns-in-Err-feed-clause-cause : goal.returns-in-Err-feed-clause-cause
returns-in-Err-feed-clause-cause g c =
    λ e. HasRisen-after _ _ _ c.loop-i.invariant.4
    (c.feed.ensures.feeds.cause c.loop-i.invariant.2 (c.in-Err-feed.is ∙ ap Err e))

-- memory is refused before any line was handled
pub returns-in-Err-feed-clause-memory : goal.returns-in-Err-feed-clause-memory
returns-in-Err-feed-clause-memory g c = λ lacks.
    let i = c.loop-i.invariant in
    (c.feed.ensures.feeds.memory i.5.0 i.5.2 i.2 (c.in-Err-feed.is ∙ ap Err lacks)).0.none

pub returns-in-Ok-eq0-clause-memory : goal.returns-in-Ok-eq0-clause-memory
returns-in-Ok-eq0-clause-memory g c = λ lacks. absurd (c.finish.ensures.finished.memory c.loop-i.invariant.2 lacks)

pub loop-i-preserved : goal.loop-i-preserved
loop-i-preserved g c =
    let i = c.loop-i.invariant in
    let r = i.5.0 in
    let piece = take c.in-Ok.n c.read.new.buffer in
    let e = c.loop-i.engine in
    let same = first-same (rules_of c.args.engine.now) (lines_of e) r piece (i.5.2.going i.2).0.lines in
    let grown : length (r ++ piece) ≡ length r + c.in-Ok.n = length-append r piece
    ∙ ap (λ n. length r + n) (sym c.in-Ok.ensures.bound.1) in (
      c.read.auto.buffer ∙ i.0,
      omega (arith, c.in_default.ensures.taken, length-take c.in-Ok.n c.read.new.buffer, c.read.auto.buffer, i.0, i.1),
      c.in_default.ensures.feeds.unended,
      c.feed.ensures.feeds.rules ∙ i.3,
      omega (arith, i.4, c.feed.ensures.feeds.counts),
      (
        r ++ piece,
        Consumes-trans _ _ _ r piece i.5.1 c.in-Ok.ensures.bytes.0,
        let k = c.feed.ensures.feeds.stands r i.5.2 in rw i.2 at k,
        let k = c.feed.ensures.feeds.sink r i.5.2 i.2 in
            let j = rw (i.3, c.in_default.ensures.feeds.unended) at k in
            Delivers-then same i.5.3 j,
        omega (arith, i.5.4, grown),
        let k = c.feed.ensures.reports r i.5.2 i.2 in
            More-then g.N.ReportSink.notes over-reported
            (More-over g.N.ReportSink.notes over-reported refl same i.5.5) (rw i.3 at k),
      ),
      c.read.ensures.failed ∙ ap is_err c.in-Ok.is,
      c.read.ensures.same_reference ∙ i.7,
      omega (arith, c.read.ensures.counted, i.8),
      λ none. absurd (omega arith),
    )

-- neither the engine's end nor the end of a piece is a read fault
pub returns-in-Ok-eq0-clause-failed : goal.returns-in-Ok-eq0-clause-failed
returns-in-Ok-eq0-clause-failed g c =
    let i = c.loop-i.invariant in
    unfailed-end _ c.finish.result (c.read.ensures.failed ∙ ap is_err c.in-Ok-eq0.is)
    (unread-concludes _ i.5.0 _ c.finish.result (c.finish.ensures.finished.concludes i.5.0 i.5.2 i.2))

pub returns-in-Err-feed-clause-failed : goal.returns-in-Err-feed-clause-failed
returns-in-Err-feed-clause-failed g c =
    let i = c.loop-i.invariant in
    unfailed-end _ c.in-Err-feed.end (c.read.ensures.failed ∙ ap is_err c.in-Ok.is)
    (unread-said _ (i.5.0 ++ take c.in-Ok.n c.read.new.buffer) _ c.in-Err-feed.end
    (c.in-Err-feed.ensures.feeds.said i.5.0 i.5.2 i.2))

pub returns-clause-failed : goal.returns-clause-failed
returns-clause-failed g c = unfailed-limit _ c.loop-i.invariant.6

pub returns-clause-runs : goal.returns-clause-runs
returns-clause-runs g c =
    let i = c.loop-i.invariant in
    let r = i.5.0 in
    let stands = i.5.2 in
    let both = Both-left g.S.LineSink.law g.N.ReportSink.notes c.loop-i.engine (rules_of c.args.engine.now) r
    (IsAtEnd (g.R.Read.remaining (source_reader c.loop-i.source))) _ _ _ _ ReadLimit i.3 (λ h. cc) (λ h. cc)
    (whole-good c.loop-i.engine r (stands.going i.2).0) (λ m u e. e) stands i.5.3 i.5.5 in (
      r,
      i.5.1,
      record {
        giving = c.args.reads;
        gave = refl;
        least = omega (arith, i.5.4);
        most = omega (arith, i.1, (stands.going i.2).2);
      },
      both.0,
      both.1,
      stops-after c.loop-i.engine.reading _ r [] (stands.going i.2).0 i.3 (sym (append-nil r)) refl (omega arith)
          (λ h. cc)
          (let k = least-going c.loop-i.engine r (stands.going i.2).0 (stands.going i.2).1 in rw i.3 at k)
          (let k = begun-held c.loop-i.engine.reading r (stands.going i.2).0 in rw i.3 at k),
    )

pub returns-in-Ok-eq0-clause-limit : goal.returns-in-Ok-eq0-clause-limit
returns-in-Ok-eq0-clause-limit g c =
    let i = c.loop-i.invariant in
    unread-limit c.finish.result
    (unread-concludes _ i.5.0 _ c.finish.result (c.finish.ensures.finished.concludes i.5.0 i.5.2 i.2))

pub returns-in-Err-feed-clause-limit : goal.returns-in-Err-feed-clause-limit
returns-in-Err-feed-clause-limit g c =
    let i = c.loop-i.invariant in
    unread-limit c.in-Err-feed.end
    (unread-said _ (i.5.0 ++ take c.in-Ok.n c.read.new.buffer) _ c.in-Err-feed.end
    (c.in-Err-feed.ensures.feeds.said i.5.0 i.5.2 i.2))
