use Rattle.cityseq_command.proofs.Common.{Check, all_under, ap, channel, refl, rules_for, run_of, ◌≡◌}
use Rattle.cityseq_command.proofs.PerformLemmas.{Does-run, Says-check, Says-nothing, features-kept, lines-refused, cause-text, no_fault}
use Rattle.cityseq_command.proofs.ask.check.Goals as goal

pub returns-in-Complete : goal.returns-in-Complete
returns-in-Complete g c =
    let all = all_under c.args.limits c.args.options in
    let rules : rules_for c.args.limits c.all-query.result c.args.options ≡ all =
    ap (λ a. record { limits = c.args.limits; criteria = a; options = c.args.options }) c.all-query.ensures.all in
    let e = rw rules at c.run-outcome.ensures.runs in
    let ask = Check c.args.limits c.args.options in
    let outcome = c.run-outcome.result in
    let old = channel g.W.Write.contents c.args.out.now in
    let new = channel g.W.Write.contents c.write_check.new.out in
    let ends = rw c.in-Complete.is at e.3.account.ends in
    let kept = c.good_lines_are_kept.ensures.kept all e.0 outcome.lines in
    let said = c.good_lines_are_kept.ensures.reported all e.0 outcome.lines in
    let collected = c.reports_are_collected.ensures.runs (run_of ask e.0 outcome)
    (g.R.Read.remaining c.run-outcome.new.reader) e.3.account (λ none. (c.run-outcome.ensures.memory none).0) in
    let w = c.write_check.ensures in (
      e.0,
      e.1,
      Does-run refl
          e.3.account e.2 e.4 e.5 collected
          (rw c.in-Complete.is (Says-check all e.0 _ _ _ c.write_check.result c.end_of_writing.result old new ends.1
          (features-kept all e.0 _ _ _ kept e.3.account.counts ends.1)
          (lines-refused all e.0 _ _ _ said e.3.account.counts ends.1) c.end_of_writing.ensures
          (record { whole = w.ok; front = w.fault; failures = w.failures })))
          (cause-text c.write_check.result c.end_of_writing.result _ _ c.end_of_writing.ensures w.failures),
    )

pub returns : goal.returns
returns g c =
    let rules : rules_for c.args.limits c.all-query.result c.args.options ≡ all_under c.args.limits c.args.options =
    ap (λ a. record { limits = c.args.limits; criteria = a; options = c.args.options }) c.all-query.ensures.all in
    let e = rw rules at c.run-outcome.ensures.runs in
    let ask = Check c.args.limits c.args.options in
    let outcome = c.run-outcome.result in
    let out = channel g.W.Write.contents c.args.out.now in
    let well = no_fault outcome.ended c.run-outcome.ensures.cause in
    let collected = c.reports_are_collected.ensures.runs (run_of ask e.0 outcome)
    (g.R.Read.remaining c.run-outcome.new.reader) e.3.account (λ none. (c.run-outcome.ensures.memory none).0) in (
      e.0,
      e.1,
      Does-run refl e.3.account e.2 e.4 e.5 collected (Says-nothing _ _ out c.in_default.not-Complete well)
          (λ is. absurd (well is)),
    )
