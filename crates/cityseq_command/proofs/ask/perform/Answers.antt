use Rattle.cityseq_command.proofs.Common.{Consumes, Filter, HasRisen, IsAtEnd, List, Memory, Ok, Took, [], ap, channel, fault_line, output_failures, refl, run_of, status_after, stream_of, subst, sym, ℕ, ◌∙◌, ◌≡◌}
use Rattle.cityseq_command.specs.Performed.{sinks, Does, Performs, asked, rules_of_ask}
use Rattle.cityseq_command.specs.ReportWriter.{WritesReport, lent_output, report_lines}
use Rattle.cityseq_command.proofs.PerformLemmas.{Answers-kept, Does-run, enough-said, lacks-room}
use Rattle.cityseq_command.proofs.WroteLemmas.{WroteAfter-then, wrote-reports}
use Rattle.cityseq_command.proofs.ask.perform.Given.{Over}
use Rattle.cityseq_command.proofs.ask.perform.Goals.{in-Check, in-Filter, in-Info}
use Rattle.cityseq_command.proofs.ask.perform.Goals as goal
use Rattle.cj_stream.specs.ReportSink.{Collects}
use Rattle.cj_stream.proofs.TookLemmas.{More-all, over-reported}

-- what is asked was done before the flush
abbrev Did : (g : Over) → goal.After-status_after g → List ℕ → Type 0
Did g c r =
    Does (WritesReport g.E.Write.contents)
    (asked c.args.ask.now r (c.match-ask.reader ≡ c.args.reader.now)
    (IsAtEnd (g.R.Read.remaining c.match-ask.reader))) c.match-ask.outcome
    (sinks (channel g.W.Write.contents c.args.out.now) c.new-reports.result)
    (sinks (channel g.W.Write.contents c.match-ask.out) c.match-ask.reports)

did : (g : Over) (c : goal.After-status_after g) → (r : List ℕ)
    × Consumes (g.R.Read.remaining c.args.reader.now) (g.R.Read.remaining c.match-ask.reader) r × Did g c r
did g c = elim c.match-ask.branch [
  | in-Check w ↦ rw (w.reader-is, w.out-is, w.reports-is, w.outcome-is, w.in-Check.is) w.check-outcome.ensures
  | in-Filter w ↦
      let ran = w.run-outcome.ensures in
      let e = ran.runs in
      let ended = w.run-outcome.result.ended in
      let ask = Filter w.in-Filter.limits w.in-Filter.query w.in-Filter.options in
      let run = run_of ask e.0 w.run-outcome.result in
      let left = g.R.Read.remaining w.run-outcome.new.reader in
      let old = c.args.out.now in
      let new = w.run-outcome.new.sink in
      let none = λ (is : ended ≡ Memory). (ran.memory is).0 in
      let writes = c.puts_are_written.ensures in
      let law = c.reports_are_collected.ensures in
      rw (w.reader-is, w.out-is, w.reports-is, w.outcome-is, w.in-Filter.is) (
        e.0,
        e.1,
        Does-run refl e.3.account e.2 e.4 e.5 (law.runs run left e.3.account none) (
          refl,
          writes.runs (stream_of run.rules e.0) ended old new e.3.puts,
          law.headline run left old new e.3 (λ is. lacks-room run _ (e.5.memory is)) ran.cause,
          writes.lines run left old new e.3 none,
        ) ran.cause,
      )
  | in-Info w ↦ rw (w.reader-is, w.out-is, w.reports-is, w.outcome-is, w.in-Info.is) w.info-outcome.ensures
]

-- The sink of reports holds the same loan to the end, so what it left is what the line of the end comes after.
performs : (g : Over) (c : goal.After-status_after g) (r : List ℕ) → Did g c r
    → Performs (asked c.args.ask.now r (c.match-ask.reader ≡ c.args.reader.now)
    (IsAtEnd (g.R.Read.remaining c.match-ask.reader))) c.status_after.result
    (record { out = channel g.W.Write.contents c.args.out.now; err = channel g.E.Write.contents c.args.err.now })
    (record {
      out = channel g.W.Write.contents c.flush.new.self;
      err = channel g.E.Write.contents c.show_after-shown.new.err;
    })
performs g c r d =
    let said = c.match-ask.outcome.ended in
    let shown = c.show_after-shown.result in
    let wrote = wrote-reports g.E.Write.contents d.refused c.new-reports.result c.match-ask.reports d.reported.took in
    let back : c.err-1.given.0 ≡ lent_output c.match-ask.reports =
    c.err-1.given.1 (sym c.new-reports.ensures.same_loan ∙ sym wrote.0) in
    let new = c.new-reports.ensures in
    let lines = rw (new.unwritten, new.output, ← back, ← c.written-reported.ensures) at wrote.1 in
    let line = WroteAfter-then (Ok tt) c.written-reported.result shown.line (report_lines d.refused)
    (fault_line shown.end) (channel g.E.Write.contents c.args.err.now) (channel g.E.Write.contents c.err-1.given.0)
    (channel g.E.Write.contents c.show_after-shown.new.err) lines c.show_after-shown.ensures.line in
    record {
      outcome = d.outcome;
      refused = d.refused;
      said = said;
      shown = shown;
      account = d.account;
      stops = d.stops;
      within = d.within;
      enough = λ few is.
          enough-said c.args.ask.now r _ d.outcome d.refused said _ _ _ d.answers d.within few is;
      reported = d.reported.collected;
      usual = λ off.
          let law = c.first_invalid_line_is_the_end.ensures.unreported_first in
          subst (λ rs. Took Collects [] rs d.refused)
          (law (rules_of_ask c.args.ask.now) r d.outcome.lines off d.account.counts.counted.good)
          (More-all Collects over-reported d.reported.collected.reports);
      answers = Answers-kept _ (channel g.W.Write.contents c.match-ask.out) _ c.flush.ensures.bytes
          c.flush.ensures.failures c.args.ask.now r _ d.outcome d.refused said d.answers;
      cause = λ is.
          subst (λ n. HasRisen (output_failures c.args.out.now) n) (sym c.flush.ensures.failures) (d.cause is);
      reports = record {
        flushed = c.flush.result;
        answered = c.flush.ensures.noted;
        end = c.show_after-shown.ensures.end;
        line = line;
      };
      status = c.status_after.ensures ∙ ap (λ n. status_after n shown.end) d.count;
    }

pub returns : goal.returns
returns g c = let e = did g c in (e.0, e.1, performs g c e.0 e.2)
