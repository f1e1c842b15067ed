use Rattle.cityseq_c.proofs.Common.{outcome_of, rules_of, sym, ◌∙◌}
use Rattle.cityseq_c.proofs.JudgedLemmas.{judged}
use Rattle.cityseq_c.proofs.judging.judge_stream.Goals as goal

pub returns : goal.returns
returns g c =
    let e = c.put_pieces-outcome.ensures in
    let rules = rules_of c.args.engine.now in
    let put = c.put_pieces-outcome.result in
    rw c.of.ensures (record {
      ok = judged g.S.LineSink.law rules c.args.header.now c.args.part.now c.requires.cut put.taken c.args.sink.now
          c.put_pieces-outcome.new.sink
          c.new-noted.result c.put_pieces-outcome.new.reports (outcome_of c.put_pieces-outcome.new.engine put.ended)
          c.args.reports.now c.reports-1.given.0 c.in_default.not-Memory e.puts e.counts
          (rw e.fed.peaks at e.fed.exact) (rw e.fed.peaks at e.fed.bounded) (rw e.fed.peaks at e.fed.least)
          e.fed.counts e.sink e.reports
          (λ r n all. c.good_lines_are_kept.ensures.reported rules r n all)
          (c.new-noted.ensures.text ∙ c.new.ensures) c.new-noted.ensures.count c.new-noted.ensures.room
          (λ loan. c.reports-1.given.1.1 (sym c.new-noted.ensures.loan ∙ sym loan));
      cause = e.cause;
      memory = tt;
      unread = tt;
    })
