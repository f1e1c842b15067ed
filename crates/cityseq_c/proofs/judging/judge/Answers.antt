use Rattle.cityseq_c.proofs.Common.{IsFit, Rules, ap, criteria, err_from_is_err_and, inl, rules_of, ◌∙◌}
use Rattle.cj_stream.specs.Query.{rules_for}
use Rattle.cityseq_c.proofs.JudgedLemmas.{known-ok}
use Rattle.cityseq_c.proofs.QueryLemmas.{call-declined, no-fault}
use Rattle.cityseq_c.proofs.NarrowLemmas.{asked-ok, declined-memory}
use Rattle.cityseq_c.proofs.judging.judge.Goals as goal

pub returns-in_err-query-clause-declined : goal.returns-in_err-query-clause-declined
returns-in_err-query-clause-declined g c =
    let returned = err_from_is_err_and c.from_residual-in_err-query.result c.from_residual-in_err-query.ensures.1 in
    rw (returned.1, returned.2)
    (call-declined c.args.request.now c.args.header.now c.args.part.now c.in_ok-limits.ensures.ok.0
    c.in_err-query.field-0.0 c.in_err-query.ensures.declined)

pub returns-clause-ok : goal.returns-clause-ok
returns-clause-ok g c =
    let fit = c.in_ok-limits.ensures.ok.0 in
    let rules : Rules =
    record {
      limits = c.in_ok-limits.limits;
      criteria = criteria c.in_ok-query.query;
      options = c.options.result;
    } in
    asked-ok g.S.LineSink.law c.args.request.now c.args.header.now c.args.part.now c.args.sink.now
    c.judge_stream.new.sink
    c.args.reports.now c.judge_stream.new.reports fit rules (rules_of c.in-Ok.engine) c.judge_stream.result
    (record { limits = c.in_ok-limits.ensures.ok.1; criteria = c.in_ok-query.ensures.ok; options = c.options.ensures })
    (c.in-Ok.ensures.empty.1
    ∙ ap (λ l. rules_for l c.in_ok-query.query c.options.result) c.limits_needed-needed.ensures)
    c.judge_stream.ensures.ok

pub returns-clause-fit : goal.returns-clause-fit
returns-clause-fit g c =
    let fit = c.in_ok-limits.ensures.ok.0 in
    known-ok (IsFit c.args.request.now c.args.header.now c.args.part.now) c.judge_stream.result fit

pub returns-clause-declined : goal.returns-clause-declined
returns-clause-declined g c =
    declined-memory g.S.LineSink.law c.args.request.now c.args.header.now c.args.part.now c.args.sink.now
    c.judge_stream.new.sink
    c.args.reports.now c.judge_stream.new.reports c.in_ok-limits.ensures.ok.0
    (no-fault c.args.request.now (criteria c.in_ok-query.query) c.in_ok-query.ensures.ok) c.judge_stream.result
    c.judge_stream.ensures.memory

pub returns-in-Err-clause-declined : goal.returns-in-Err-clause-declined
returns-in-Err-clause-declined g c = (
  c.in_ok-limits.ensures.ok.0,
  inl (no-fault c.args.request.now (criteria c.in_ok-query.query) c.in_ok-query.ensures.ok),
)
