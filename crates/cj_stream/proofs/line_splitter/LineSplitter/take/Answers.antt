use Rattle.cj_stream.proofs.Common.{List, ap, arith, drop, err_from_is_err_and, length, length-drop, refl, take, take-append-drop, take_all, ℕ, ◌++◌, ◌-◌, ◌∙◌, ◌≡◌}
use Rattle.cj_stream.proofs.PieceLemmas.{TakesAll-then, TakesSome-then, HeldUntil-then}
use Rattle.cj_stream.proofs.NoteLemmas.{Notes-none, Notes-header}
use Rattle.cj_stream.proofs.line_splitter.LineSplitter.take.Goals as goal

-- a piece, by its front and the rest
whole : (bytes : List ℕ) (k : ℕ) → take k bytes ++ take (length bytes - k) (drop k bytes) ≡ bytes
whole bytes k =
    ap (λ z. take k bytes ++ z) (take_all (length bytes - k) (drop k bytes) (omega (arith, length-drop k bytes)))
    ∙ take-append-drop k _

pub returns-in_err-progress-clause-reports : goal.returns-in_err-progress-clause-reports
returns-in_err-progress-clause-reports g c = λ p reads.
    Notes-none g.N.ReportSink.notes c.args.self.now.reading.rules (p ++ c.args.piece.now)
    c.args.self.now.reading.lines c.take_front.new.self.reading.lines _ _
    (omega (arith, c.in_err-progress.ensures.none, c.if-lines-gt0.false, c.lines.ensures)) refl

-- ---- what came of the rest

pub returns-in_err-take_piece-2-clause-err : goal.returns-in_err-take_piece-2-clause-err
returns-in_err-take_piece-2-clause-err g c =
    let p = err_from_is_err_and c.from_residual-in_err-take_piece-2.result
    c.from_residual-in_err-take_piece-2.ensures.1 in
    let k = TakesSome-then g.S.LineSink.law c.in_ok-progress.ensures.ok c.in_err-take_piece-2.ensures.err in
    rw (p.1, p.2) (rw (whole c.args.piece.now c.in_ok-progress.progress.used) at k)

pub returns-in_err-take_piece-2-clause-least : goal.returns-in_err-take_piece-2-clause-least
returns-in_err-take_piece-2-clause-least g c =
    let p = err_from_is_err_and c.from_residual-in_err-take_piece-2.result
    c.from_residual-in_err-take_piece-2.ensures.1 in
    let k = HeldUntil-then g.S.LineSink.law c.in_ok-progress.ensures.ok _ _ _ c.in_err-take_piece-2.ensures.least in
    rw p.1 (rw (whole c.args.piece.now c.in_ok-progress.progress.used) at k)

pub returns-in_err-take_piece-2-clause-reports : goal.returns-in_err-take_piece-2-clause-reports
returns-in_err-take_piece-2-clause-reports g c = λ p reads.
    let a = c.in_ok-progress.ensures.ok.advances p reads in
    let used = c.in_ok-progress.progress.used in
    let rest = take (length c.args.piece.now - used) (drop used c.args.piece.now) in
    let k = Notes-header g.N.ReportSink.notes c.args.self.now.reading c.take_front.new.self.reading p
    (take used c.args.piece.now) rest c.take_piece-2.new.self.reading.lines _ _
    (omega (arith, c.if-lines-gt0.false, c.lines.ensures)) c.take_front.ensures.few a.rules a.reads
    (c.take_piece-2.ensures.reports (p ++ take c.in_ok-progress.progress.used c.args.piece.now) a.reads) in
    rw (whole c.args.piece.now c.in_ok-progress.progress.used) at k

pub returns-clause-ok : goal.returns-clause-ok
returns-clause-ok g c =
    let k = TakesAll-then g.S.LineSink.law c.in_ok-progress.ensures.ok c.in_ok-take_piece-2.ensures.ok in
    rw (whole c.args.piece.now c.in_ok-progress.progress.used) at k

pub returns-clause-reports : goal.returns-clause-reports
returns-clause-reports g c = λ p reads.
    let a = c.in_ok-progress.ensures.ok.advances p reads in
    let used = c.in_ok-progress.progress.used in
    let rest = take (length c.args.piece.now - used) (drop used c.args.piece.now) in
    let k = Notes-header g.N.ReportSink.notes c.args.self.now.reading c.take_front.new.self.reading p
    (take used c.args.piece.now) rest c.take_piece-2.new.self.reading.lines _ _
    (omega (arith, c.if-lines-gt0.false, c.lines.ensures)) c.take_front.ensures.few a.rules a.reads
    (c.take_piece-2.ensures.reports (p ++ take c.in_ok-progress.progress.used c.args.piece.now) a.reads) in
    rw (whole c.args.piece.now c.in_ok-progress.progress.used) at k
