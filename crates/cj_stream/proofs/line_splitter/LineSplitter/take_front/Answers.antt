use Rattle.cj_stream.proofs.Common.{TakesSome, arith, drop, err_from_is_err_and, header_end, length, refl, subst, sym, take, take_all, with_sink, ◌+◌, ◌∙◌}
use Rattle.cj_stream.proofs.LineLemmas.{lf_found, lf_front, NoLf-before, NoLf-not_found}
use Rattle.cj_stream.proofs.FeedingLemmas.{held-now}
use Rattle.cj_stream.proofs.PieceLemmas.{TakesAll-stored, TakesSome-last}
use Rattle.cj_stream.proofs.line_splitter.LineSplitter.take_front.Goals as goal

pub returns-in_err-store_first-clause-err : goal.returns-in_err-store_first-clause-err
returns-in_err-store_first-clause-err g c =
    let p = err_from_is_err_and c.from_residual.result c.from_residual.ensures.1 in
    let none = NoLf-not_found c.args.piece.now c.memchr.result c.memchr.ensures c.in_default.not-Some in
    rw (p.1, p.2) (rw c.in_err-store_first.ensures.err (TakesSome-last g.S.LineSink.law c.args.self.now c.args.sink.now
    c.args.piece.now none _ c.in_err-store_first.ensures.cause))

pub returns-in_default-clause-front : goal.returns-in_default-clause-front
returns-in_default-clause-front g c = record {
  within = omega arith;
  all = λ _. (refl, NoLf-not_found _ _ c.memchr.ensures c.in_default.not-Some);
  first = λ e. cc;
}

pub returns-in_default-clause-ok : goal.returns-in_default-clause-ok
returns-in_default-clause-ok g c =
    let piece = c.args.piece.now in
    rw (take_all (length piece) piece (omega arith)) (TakesAll-stored _ _ _ _ (NoLf-not_found piece c.memchr.result
    c.memchr.ensures c.in_default.not-Some) _
    c.in_ok-store_first.ensures.ok c.store_first.ensures.lists)

pub take_first-requires-clause-one : goal.take_first-requires-clause-one
take_first-requires-clause-one g c = NoLf-before _ _ c.in-Some.ensures

pub returns-in_err-take_first-clause-err : goal.returns-in_err-take_first-clause-err
returns-in_err-take_first-clause-err g c =
    let p = err_from_is_err_and c.from_residual-in_err-take_first.result c.from_residual-in_err-take_first.ensures.1 in
    rw (p.1, p.2) (subst (λ z. TakesSome g.S.LineSink.law z (with_sink c.args.self.now c.args.sink.now)
    (header_end c.in_err-take_first.field-0.0) (with_sink c.take_first.new.self c.take_first.new.sink))
    (sym (lf_found c.args.piece.now c.in-Some.at c.in-Some.ensures))
    (c.in_err-take_first.ensures.err (drop (c.in-Some.at + 1) c.args.piece.now)))

pub returns-in_err-take_first-clause-least : goal.returns-in_err-take_first-clause-least
returns-in_err-take_first-clause-least g c =
    let p = err_from_is_err_and c.from_residual-in_err-take_first.result c.from_residual-in_err-take_first.ensures.1 in
    rw p.1 (λ q reads s. held-now c.args.self.now.reading.rules.limits q c.args.piece.now _ c.args.self.now.scanning
    c.take_first.new.self.scanning (c.in_err-take_first.ensures.unhandled ∙ reads.lines) s
    c.take_first.ensures.carries.rises)

pub returns-clause-front : goal.returns-clause-front
returns-clause-front g c = record {
  within = omega (arith, c.in-Some.ensures.0.high);
  all = λ e. cc;
  first = λ _. (
    take c.in-Some.at c.args.piece.now,
    lf_front c.args.piece.now c.in-Some.at c.in-Some.ensures,
    NoLf-before c.args.piece.now c.in-Some.at c.in-Some.ensures,
  );
}

pub returns-clause-ok : goal.returns-clause-ok
returns-clause-ok g c =
    rw (lf_front c.args.piece.now c.in-Some.at c.in-Some.ensures) c.in_ok-take_first.ensures.ok
