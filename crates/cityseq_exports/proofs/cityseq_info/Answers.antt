use Rattle.cityseq_c.proofs.Common.{Complete, IsTalliedOf, IsTally, IsUnhindered, OnOk, Tallies, never_fails, stream_of, sym, ◌++◌, ◌∙◌}
use Rattle.cityseq_c.proofs.JudgedLemmas.{goes-known, known-ok, never-full, unknown-err}
use Rattle.cityseq_c.proofs.AnswerLemmas.{tallied}
use Rattle.cityseq_exports.proofs.cityseq_info.Goals.{then-is_ok, else-is_ok}
use Rattle.cityseq_exports.proofs.cityseq_info.Goals as goal

pub returns-clause-tallies : goal.returns-clause-tallies
returns-clause-tallies c =
    let j = c.judge-judged.ensures in
    let header = c.args.header.now in
    let part = c.args.part.now in
    let went = c.judge-judged.result in
    let sink = c.judge-judged.new.sink in
    let shown = c.if-is_ok.tally in
    let known : OnOk went (IsTally sink shown) =
    elim c.if-is_ok.branch [
      | then-is_ok w ↦ known-ok (IsTally sink shown) went (rw w.tally-is w.of.ensures)
      | else-is_ok w ↦ unknown-err (IsTally sink shown) went (sym c.is_ok.ensures.value ∙ w.if-is_ok.false)
    ] in
    record {
      went = went;
      goes = goes-known (never_fails Tallies) c.args.request.now header part c.new-sink.result sink c.args.reports.now
          c.judge-judged.new.reports
          (IsTally sink shown) (λ rules o. IsUnhindered o.ended → IsTalliedOf rules (header ++ part) shown)
          (λ same rules o judged free. tallied rules (header ++ part) o c.new-sink.result sink c.args.reports.now
          c.judge-judged.new.reports judged c.new-sink.ensures shown same
          (λ fresh puts. c.puts_are_tallied.ensures.runs (stream_of rules (header ++ part)) Complete c.new-sink.result
          sink fresh puts) free)
          went known j.ok j.declined j.unread;
      shown = c.of-2.ensures;
    }

pub returns-clause-fits : goal.returns-clause-fits
returns-clause-fits c =
    never-full c.args.request.now c.judge-judged.result c.of-2.result 0 c.of-2.ensures c.judge-judged.ensures.cause
