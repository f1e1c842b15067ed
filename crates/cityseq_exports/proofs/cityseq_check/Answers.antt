use Rattle.cityseq_c.proofs.JudgedLemmas.{goes, never-full, unjudged}
use Rattle.cityseq_exports.proofs.cityseq_check.Goals as goal

pub returns-clause-checks : goal.returns-clause-checks
returns-clause-checks c =
    let j = c.judge-judged.ensures in
    record {
      went = c.judge-judged.result;
      goes = goes _ c.args.request.now c.args.header.now c.args.part.now _ _ c.args.reports.now
          c.judge-judged.new.reports (λ rules o. Unit {0}) (λ rules o judged. tt) c.judge-judged.result
          j.ok j.declined j.unread;
      shown = c.of.ensures;
    }

pub returns-clause-fits : goal.returns-clause-fits
returns-clause-fits c =
    never-full c.args.request.now c.judge-judged.result c.of.result 0 c.of.ensures c.judge-judged.ensures.cause

pub returns-clause-unjudged : goal.returns-clause-unjudged
returns-clause-unjudged c which =
    let j = c.judge-judged.ensures in
    let same = unjudged _ c.args.request.now c.args.header.now c.args.part.now _ _ c.args.reports.now
    c.judge-judged.new.reports c.judge-judged.result c.of.result 0 c.of.ensures j.ok j.unread which in
    (same.0, same.1)
