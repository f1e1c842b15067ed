use Rattle.cj_stream.proofs.Common.{answer_of, ap, begun_of, err_from_is_err_and, false, header_end, next_item, begun_verdict, true, ◌∙◌}
use Rattle.cj_stream.proofs.PieceLemmas.{Handles-first, TakesSome-unstored, TakesAll-line, TakesSome-line}
use Rattle.cj_stream.proofs.EngineLemmas.{handled-err}
use Rattle.cj_stream.proofs.line_splitter.LineSplitter.take_first.Goals as goal

pub returns-in_err-store_first-clause-err : goal.returns-in_err-store_first-clause-err
returns-in_err-store_first-clause-err g c =
    let p = err_from_is_err_and c.from_residual.result c.from_residual.ensures.1 in
    rw (p.1, p.2) (rw c.in_err-store_first.ensures.err (λ more.
    TakesSome-unstored g.S.LineSink.law c.args.self.now c.args.sink.now c.args.part.now c.requires.one more _
    c.in_err-store_first.ensures.cause))

pub returns-in_err-handle_first-clause-err : goal.returns-in_err-handle_first-clause-err
returns-in_err-handle_first-clause-err g c =
    let p = err_from_is_err_and c.from_residual-in_err-handle_first.result
    c.from_residual-in_err-handle_first.ensures.1 in
    let stored = c.in_ok-store_first.ensures.ok in
    let handles = Handles-first g.S.LineSink.law c.store_first.new.self.reading c.handle_first.new.self.reading
    c.args.sink.now c.handle_first.new.sink _ _ (answer_of header_end c.handle_first.result)
    (stored.lines ∙ c.requires.first) c.handle_first.ensures.handles in
    rw (p.1, p.2) (λ more. TakesSome-line g.S.LineSink.law c.args.self.now c.args.sink.now c.args.part.now
    c.requires.one c.store_first.new.self c.handle_first.new.self c.handle_first.new.sink
    stored c.store_first.ensures.lists _ handles more _ (ap (answer_of header_end) c.in_err-handle_first.was)
    c.handle_first.ensures.few)

pub returns-clause-ok : goal.returns-clause-ok
returns-clause-ok g c =
    let stored = c.in_ok-store_first.ensures.ok in
    let handles = Handles-first g.S.LineSink.law c.store_first.new.self.reading c.handle_first.new.self.reading
    c.args.sink.now c.handle_first.new.sink _ _ (answer_of header_end c.handle_first.result)
    (stored.lines ∙ c.requires.first) c.handle_first.ensures.handles in
    TakesAll-line g.S.LineSink.law c.args.self.now c.args.sink.now c.args.part.now c.requires.one c.store_first.new.self
    c.handle_first.new.self c.handle_first.new.sink
    stored c.store_first.ensures.lists _ handles (ap (answer_of header_end) c.in_ok-handle_first.was)
    c.in_ok-handle_first.ensures.scanned

pub returns-in_err-handle_first-clause-unhandled : goal.returns-in_err-handle_first-clause-unhandled
returns-in_err-handle_first-clause-unhandled g c =
    let p = err_from_is_err_and c.from_residual-in_err-handle_first.result
    c.from_residual-in_err-handle_first.ensures.1 in
    let handles = rw c.in_err-handle_first.was at c.handle_first.ensures.handles in
    let f = c.store_first.new.self.reading in
    rw p.1 (handled-err g.S.LineSink.law false (begun_verdict f)
    (next_item f (record { content = begun_of f; lf = true })) f _ _ _ _ handles
    ∙ c.in_ok-store_first.ensures.ok.lines)
