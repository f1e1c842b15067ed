use Rattle.cityseq_c.proofs.Common.{IsFit, IsUnhindered, ap, never_fails, spots, sym, ◌++◌, ◌∙◌}
use Rattle.cityseq_c.specs.Features.{HoldsRecords, ListsItem, listed_loan, listed_room}
use Rattle.cityseq_c.proofs.JudgedLemmas.{goes-known, never-full, unjudged}
use Rattle.cityseq_c.proofs.RecordLemmas.{recorded}
use Rattle.cityseq_exports.proofs.cityseq_features.Goals as goal

pub returns-clause-lists : goal.returns-clause-lists
returns-clause-lists c =
    let j = c.judge-judged.ensures in
    let header = c.args.header.now in
    let part = c.args.part.now in
    let before = c.args.records.now in
    let after = c.records-1.given.0 in
    let s = c.new-listed.result in
    let t = c.judge-judged.new.sink in
    record {
      went = c.judge-judged.result;
      goes = goes-known (never_fails ListsItem) c.args.request.now header part s t c.args.reports.now
          c.judge-judged.new.reports
          (IsFit c.args.request.now header part)
          (λ rules o. IsUnhindered o.ended → HoldsRecords (spots rules (header ++ part)) before after)
          (λ fit rules o judged free. recorded rules header part s t before after fit.cut (judged.took free)
          c.new-listed.ensures.count c.new-listed.ensures.room c.new-listed.ensures.place
          (λ loan. c.records-1.given.1.1 (sym c.new-listed.ensures.loan ∙ sym loan)))
          c.judge-judged.result j.fit j.ok j.declined j.unread;
      shown = c.of.ensures;
    }

pub returns-clause-fits : goal.returns-clause-fits
returns-clause-fits c =
    never-full c.args.request.now c.judge-judged.result c.of.result 0 c.of.ensures c.judge-judged.ensures.cause

pub returns-clause-unjudged : goal.returns-clause-unjudged
returns-clause-unjudged c which =
    let j = c.judge-judged.ensures in
    let s = c.new-listed.result in
    let t = c.judge-judged.new.sink in
    let same = unjudged (never_fails ListsItem) c.args.request.now c.args.header.now c.args.part.now s t
    c.args.reports.now c.judge-judged.new.reports c.judge-judged.result c.of.result 0 c.of.ensures j.ok j.unread
    which in (
      same.0,
      same.1,
      c.records-1.given.1.1 (sym c.new-listed.ensures.loan ∙ sym (ap listed_loan same.2))
          ∙ (ap listed_room same.2 ∙ c.new-listed.ensures.room),
    )
