use Rattle.cj_stream.proofs.Common.{[], answer_of, ap, append-nil, append_assoc, arith, drop, err_from_is_err_and, line_end, refl, sym, take, ◌++◌, ◌+◌, ◌∙◌, ◌∷◌, ◌≡◌}
use Rattle.cj_stream.proofs.NoteLemmas.{Notes-line, Notes-none}
use Rattle.cj_stream.proofs.LineLemmas.{lf_found, NoLf-before, NoLf-not_found, left_length, piece_more}
use Rattle.cj_stream.proofs.PieceLemmas.{Advances-none, TakesAll-then, TakesSome-then, TakesAll-stored, TakesSome-unstored, TakesSome-last, TakesAll-line, TakesSome-line}
use Rattle.cj_stream.proofs.EngineLemmas.{Stays-then, Stays-same, handled-err}
use Rattle.cj_stream.proofs.ScanningLemmas.{Rises-then, Rises-same}
use Rattle.cj_stream.proofs.TookLemmas.{More-then, over-reported}
use Rattle.cj_stream.proofs.line_splitter.LineSplitter.take_piece.Goals as goal

pub loop-at-init : goal.loop-at-init
loop-at-init g c = record {
  stays = Stays-same c.args.self.now.reading c.args.self.now.reading refl;
  rises = Rises-same c.args.self.now.scanning c.args.self.now.scanning refl;
  ready = c.requires.ready;
  few = omega arith;
  grows = omega arith;
  counts = omega arith;
  read = (
    [],
    refl,
    record {
      advances = λ q reads. Advances-none g.S.LineSink.law reads;
      scanned = λ q reads s. rw (append-nil q) s;
    },
  );
  reports = λ q reads. Notes-none g.N.ReportSink.notes c.args.self.now.reading.rules (q ++ c.args.piece.now)
      c.args.self.now.reading.lines c.args.self.now.reading.lines _ _ refl refl;
}

pub loop-at-preserved : goal.loop-at-preserved
loop-at-preserved g c =
    let i = c.loop-at.invariant.read in
    let rest = c.loop-at.rest.now in
    let k = c.in-Some.at in
    let free = NoLf-before rest k c.in-Some.ensures in
    let stored = c.in_ok-store.ensures.ok in
    let taken = TakesAll-line g.S.LineSink.law c.loop-at.self c.loop-at.sink (take k rest) free c.store.new.self
    c.handle_line.new.self c.handle_line.new.sink stored c.store.ensures.lists (answer_of line_end c.handle_line.result)
    c.handle_line.ensures.handles (ap (answer_of line_end) c.in_ok-handle_line.was)
    c.in_ok-handle_line.ensures.scanned in
    record {
      stays = Stays-then _ _ _ c.loop-at.invariant.stays (Stays-then _ _ _ c.store.ensures.stays
          c.handle_line.ensures.carries.stays);
      rises = Rises-then _ _ _ c.loop-at.invariant.rises (rw c.store.ensures.lists at
          c.handle_line.ensures.carries.rises);
      ready = c.handle_line.ensures.carries.late (omega (
        arith,
        c.requires.later,
        c.loop-at.invariant.grows,
        stored.lines,
      ));
      few = omega (
        arith,
        left_length rest k c.in-Some.ensures,
        c.in_ok-handle_line.ensures.one,
        stored.lines,
        c.loop-at.invariant.few,
      );
      grows = omega (arith, c.loop-at.invariant.grows, c.handle_line.ensures.grows, stored.lines);
      counts = omega (arith, c.handle_line.ensures.carries.counts, c.loop-at.invariant.counts);
      read = (
        i.0 ++ (take k rest ++ 10 ∷ []),
        piece_more c.args.piece.now i.0 rest k i.1 c.in-Some.ensures,
        TakesAll-then g.S.LineSink.law i.2 taken,
      );
      reports = λ q reads.
          let text : (q ++ i.0) ++ (take k c.loop-at.rest.now ++ 10 ∷ drop (k + 1) c.loop-at.rest.now) ≡ q
          ++ c.args.piece.now =
          append_assoc q i.0 (take k c.loop-at.rest.now ++ 10 ∷ drop (k + 1) c.loop-at.rest.now) ∙ ap (λ z. q ++ z)
          (ap (λ z. i.0 ++ z) (sym (lf_found rest k c.in-Some.ensures)) ∙ sym i.1) in
          let now = Notes-line g.N.ReportSink.notes c.loop-at.self.reading c.store.new.self.reading
          c.handle_line.new.self.reading (q ++ i.0) (take k rest)
          (drop (k + 1) rest) c.loop-at.reports c.handle_line.new.reports
          (i.2.advances q reads).reads free stored c.in_ok-handle_line.ensures.one c.in_ok-handle_line.ensures.noted in
          More-then g.N.ReportSink.notes over-reported (c.loop-at.invariant.reports q reads)
          (rw (text, c.loop-at.invariant.stays.rules) at now);
    }

pub returns-in_err-store-clause-err : goal.returns-in_err-store-clause-err
returns-in_err-store-clause-err g c =
    let p = err_from_is_err_and c.from_residual.result c.from_residual.ensures.1 in
    let i = c.loop-at.invariant.read in
    let rest = c.loop-at.rest.now in
    let k = c.in-Some.at in
    let stopped = TakesSome-unstored g.S.LineSink.law c.loop-at.self c.loop-at.sink (take k rest)
    (NoLf-before rest k c.in-Some.ensures) (drop (k + 1) rest) _ c.in_err-store.ensures.cause in
    rw (p.1, p.2) (rw (i.1, c.in_err-store.ensures.err) (TakesSome-then g.S.LineSink.law i.2
    (rw (lf_found rest k c.in-Some.ensures) stopped)))

pub returns-in_err-handle_line-clause-err : goal.returns-in_err-handle_line-clause-err
returns-in_err-handle_line-clause-err g c =
    let p = err_from_is_err_and c.from_residual-in_err-handle_line.result c.from_residual-in_err-handle_line.ensures.1
    in
    let i = c.loop-at.invariant.read in
    let rest = c.loop-at.rest.now in
    let k = c.in-Some.at in
    let stopped = TakesSome-line g.S.LineSink.law c.loop-at.self c.loop-at.sink (take k rest)
    (NoLf-before rest k c.in-Some.ensures) c.store.new.self c.handle_line.new.self c.handle_line.new.sink
    c.in_ok-store.ensures.ok
    c.store.ensures.lists
    (answer_of line_end c.handle_line.result) c.handle_line.ensures.handles (drop (k + 1) rest) _
    (ap (answer_of line_end) c.in_err-handle_line.was) c.handle_line.ensures.few in
    rw (p.1, p.2) (rw i.1 (TakesSome-then g.S.LineSink.law i.2 (rw (lf_found rest k c.in-Some.ensures) stopped)))

pub returns-in_err-handle_line-clause-reports : goal.returns-in_err-handle_line-clause-reports
returns-in_err-handle_line-clause-reports g c = λ q reads.
    let handles = rw c.in_err-handle_line.was at c.handle_line.ensures.handles in
    rw (
      handled-err g.S.LineSink.law _ _ _ _ _ _ _ _ handles ∙ c.in_ok-store.ensures.ok.lines,
      c.in_err-handle_line.ensures.silent,
    ) (c.loop-at.invariant.reports q reads)

pub returns-in_err-store-2-clause-err : goal.returns-in_err-store-2-clause-err
returns-in_err-store-2-clause-err g c =
    let p = err_from_is_err_and c.from_residual-in_err-store-2.result c.from_residual-in_err-store-2.ensures.1 in
    let i = c.loop-at.invariant.read in
    let none = NoLf-not_found c.loop-at.rest.now c.memchr.result c.memchr.ensures c.in_default.not-Some in
    rw (p.1, p.2) (rw (i.1, c.in_err-store-2.ensures.err) (TakesSome-then g.S.LineSink.law i.2
    (TakesSome-last g.S.LineSink.law c.loop-at.self c.loop-at.sink c.loop-at.rest.now none _
    c.in_err-store-2.ensures.cause)))

pub returns-clause-ok : goal.returns-clause-ok
returns-clause-ok g c =
    let i = c.loop-at.invariant.read in
    let none = NoLf-not_found c.loop-at.rest.now c.memchr.result c.memchr.ensures c.in_default.not-Some in
    rw i.1 (TakesAll-then g.S.LineSink.law i.2 (TakesAll-stored g.S.LineSink.law c.loop-at.self c.loop-at.sink
    c.loop-at.rest.now none c.store-2.new.self c.in_ok-store-2.ensures.ok c.store-2.ensures.lists))
