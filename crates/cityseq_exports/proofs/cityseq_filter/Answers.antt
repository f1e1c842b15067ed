use Rattle.cityseq_c.proofs.Common.{Copied, ap, sym, ◌++◌, ◌∙◌}
use Rattle.cityseq_c.specs.Room.{room_law, room_bytes, room_loan}
use Rattle.cityseq_c.proofs.JudgedLemmas.{filters, goes, unjudged}
use Rattle.cityseq_c.proofs.RoomLemmas.{copied}
use Rattle.cityseq_exports.proofs.cityseq_filter.Goals as goal

pub returns-clause-filters : goal.returns-clause-filters
returns-clause-filters c =
    let j = c.judge-judged.ensures in
    let header = c.args.header.now in
    let part = c.args.part.now in
    let before = c.args.output.now in
    let after = c.output-1.given.0 in
    let written = c.written.result in
    let a = c.new-room.result in
    let b = c.judge-judged.new.sink in
    let reports = c.args.reports.now in
    let new = c.judge-judged.new.reports in
    filters c.args.request.now header part reports new before after written c.of.result c.judge-judged.result
    c.of.ensures
    (goes room_law c.args.request.now header part a b reports new
    (λ rules o. Copied rules (header ++ part) before after written o)
    (λ rules o judged. copied rules (header ++ part) o a b reports new before after written judged
    c.new-room.ensures.written c.new-room.ensures.bytes
    (λ loan. c.output-1.given.1.1 (sym c.new-room.ensures.loan ∙ sym loan)) c.written.ensures)
    c.judge-judged.result j.ok j.declined j.unread)

pub returns-clause-unjudged : goal.returns-clause-unjudged
returns-clause-unjudged c which =
    let j = c.judge-judged.ensures in
    let a = c.new-room.result in
    let b = c.judge-judged.new.sink in
    let same = unjudged room_law c.args.request.now c.args.header.now c.args.part.now a b c.args.reports.now
    c.judge-judged.new.reports c.judge-judged.result c.of.result c.written.result c.of.ensures j.ok
    j.unread which in (
      same.0,
      same.1,
      c.output-1.given.1.1 (sym c.new-room.ensures.loan ∙ sym (ap room_loan same.2))
          ∙ (ap room_bytes same.2 ∙ c.new-room.ensures.bytes),
    )
