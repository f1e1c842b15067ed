-- Commands that are made option by option, and what is said of texts.
use Rattle.cityseq_command.proofs.Common.{IsCommand, IsOption, arith, Appends, AppendsPart, Channel, Complete, End, HasRisen, Keeps, List, Option, Report, Result, RisesOnErr, Wrote, [], check_text, outputs, run_of, stream_of, subst, summary_text, ℕ, ◌≡◌, rules}
use Rattle.clap.specs.Words.{AddsArg, AddsSubcommand, App, Rule, with_rule, with_subcommand}
use Rattle.clap.specs.declared.builder.arg.Arg.{Arg}
use Rattle.clap.specs.declared.builder.command.Command.{Command}
use Rattle.std.proofs.Common.{◌<◌, ◌^◌, length, filter}
use Rattle.cj_budget.specs.declared.limits.Peaks.{Peaks}
use Rattle.cj_stream.specs.declared.ending.End.TheVariants.{ReadLimit, WriteFault}
use Rattle.cj_stream.specs.declared.output.WriteFault.{WriteFault as Unwritten}
use Rattle.cj_stream.specs.declared.running.Outcome.{Outcome}
use Rattle.cj_stream.specs.Engine.{Counts}
use Rattle.cj_stream.specs.Meaning.Headline.{Headline}
use Rattle.cj_stream.specs.Run.{fate_of, Run, LacksRoom, Account, IsReadWithin, RunsNoting, StopsInTime}
use Rattle.cj_stream.specs.Items.{is_feature}
use Rattle.cj_stream.specs.ReportSink.{Collects}
use Rattle.cj_stream.specs.Meaning.Rules.{Rules}
use Rattle.cj_stream.specs.Verdict.{good, kept, kept_first, reported, reported_first}
use Rattle.cj_stream.specs.Bound.{exact_peaks}
use Rattle.cj_stream.specs.TallySink.{Tally, IsTallyOf, no_tally}
use Rattle.cityseq_command.specs.Performed.{end_of_writing, SaysText, SaysCheck, SaysSummary, Answers, Does, asked, ended_by, rules_of_ask, sinks, went}
use Rattle.cityseq_command.specs.declared.ask.Ask.{Ask}
use Rattle.cj_stream.proofs.TookLemmas.{over-reported}

-- ---- commands that are made option by option

-- a command with one more option
pub with_option : {old new : Command} {a : Arg} {s : App} {r : Rule} → IsCommand old s → IsOption a r
    → AddsArg old a new → IsCommand new (with_rule s r)
with_option is_old is_option adds = grind arith

-- a command with one more command below it
pub with_command : {old sub new : Command} {s u : App} → IsCommand old s → IsCommand sub u → AddsSubcommand old sub new
    → IsCommand new (with_subcommand s u.top)
with_command is_old is_sub adds = grind arith

-- ---- what is said of texts that the program writes

pub Keeps-refl : (a : Option (List ℕ)) → Keeps a a
Keeps-refl a = grind arith

pub Keeps-then : (a b c : Option (List ℕ)) → Keeps a b → Keeps b c → Keeps a c
Keeps-then a b c p q = grind arith

-- what was written stays where the writer keeps its bytes
Appends-kept : (a b c : Option (List ℕ)) (x : List ℕ) → Appends a b x → Keeps b c → Appends a c x
Appends-kept a b c x p q = grind arith

module _ (a b c : Option (List ℕ)) (keeps : Keeps b c) where
  AppendsPart-kept : (x : List ℕ) → AppendsPart a b x → AppendsPart a c x
  AppendsPart-kept x p =
      grind arith

-- a write fault that is said of a text has its cause
pub cause-text : (written : Result (Unit {0}) Unwritten) (said : End) (a b : ℕ) → said ≡ end_of_writing written
    → RisesOnErr written a b → said ≡ WriteFault → HasRisen a b
cause-text written said a b is_said rises is = grind arith

pub no_fault : (e : End) → (e ≡ WriteFault → HasRisen 0 0) → e ≡ WriteFault → ⊥
no_fault e cause is = grind arith

-- nothing was written after a run that is not complete
pub Says-nothing : (text : List ℕ) (e : End) (a : Channel) → (e ≡ Complete → ⊥) → (e ≡ WriteFault → ⊥)
    → SaysText text e e a a
Says-nothing text e a other well = grind (arith, Keeps-refl)

-- the features that a complete run kept are those among what is kept, and the lines that it refused those that are
-- reported
pub features-kept : (rules : Rules) (r : List ℕ) (n features refused : ℕ)
    → (n ≡ length (good rules r) → kept_first rules n r ≡ kept rules r)
    → Counts rules r n features refused → n ≡ length (good rules r)
    → features ≡ length (filter is_feature (kept rules r))
features-kept rules r n features refused all counts lines = grind arith

pub lines-refused : (rules : Rules) (r : List ℕ) (n features refused : ℕ)
    → (n ≡ length (good rules r) → reported_first rules n r ≡ reported rules r)
    → Counts rules r n features refused → n ≡ length (good rules r) → refused ≡ length (reported rules r)
lines-refused rules r n features refused all counts lines = grind arith

-- why memory was refused, whatever the reader is
pub lacks-room : (run : Run) (at_start : Type 0) → LacksRoom run at_start → LacksRoom run (Unit {0})
lacks-room run at_start lacks = grind arith

-- a run does what is asked, where this is what it answers; what is said is its outcome, or one with another end
pub Does-run : {N : Type 0} {notes : N → Report → N → Type 0} {ask : Ask} {r : List ℕ} {at_start at_end : Type 0}
    {outcome said : Outcome} {a b : Channel} {n m : N} → said ≡ ended_by outcome said.ended
    → Account (run_of ask r outcome) at_end → IsReadWithin (2 ^ 40) r outcome.ended
    → RunsNoting notes (run_of ask r outcome) n m → StopsInTime (run_of ask r outcome) at_start
    → RunsNoting Collects (run_of ask r outcome) [] (reported_first (rules_of_ask ask) outcome.lines r)
    → Answers ask (went r at_end outcome (reported_first (rules_of_ask ask) outcome.lines r)) said.ended a b
    → (said.ended ≡ WriteFault → HasRisen a.failures b.failures)
    → Does notes (asked ask r at_start at_end) said (sinks a n) (sinks b m)
Does-run rest account within noted stops collected answers cause =
    grind (arith, over-reported)

-- a check or a summary after a complete run, of what that counted
pub Says-check : (rules : Rules) (r : List ℕ) (n m k : ℕ) (written : Result (Unit {0}) Unwritten) (said : End)
    (old new : Channel)
    → n ≡ length (good rules r) → m ≡ length (filter is_feature (kept rules r)) → k ≡ length (reported rules r)
    → said ≡ end_of_writing written
    → Wrote (check_text n m k) written old new → SaysCheck (stream_of rules r) Complete said old new
Says-check rules r n m k written said old new lines features refused is_said wrote =
    let now : Wrote (check_text (length (good rules r)) (length (filter is_feature (kept rules r)))
    (length (reported rules r))) written old new = rw (← lines, ← features, ← refused) wrote in
    (written, is_said, now)

pub Says-summary : (rules : Rules) (r : List ℕ) (n : ℕ) (t : Tally) (peaks : Peaks)
    (written : Result (Unit {0}) Unwritten) (said : End) (old new : Channel)
    → n ≡ length (good rules r) → IsTallyOf (kept rules r) t → peaks ≡ exact_peaks rules.limits r
    → said ≡ end_of_writing written
    → Wrote (summary_text n t peaks) written old new → SaysSummary (stream_of rules r) Complete said old new
Says-summary rules r n t peaks written said old new lines tally held is_said wrote = record {
  tally = t;
  counted = λ e. tally;
  says = subst (λ p. SaysText (summary_text (length (good rules r)) t p) Complete said old new) held
      (subst (λ x. SaysText (summary_text x t peaks) Complete said old new) lines (written, is_said, wrote));
}

-- nothing was reported after a run that is not complete
pub Says-no_summary : (rules : Rules) (r : List ℕ) (e : End) (a : Channel) → (e ≡ Complete → ⊥) → (e ≡ WriteFault → ⊥)
    → SaysSummary (stream_of rules r) e e a a
Says-no_summary rules r e a other well = record {
  tally = no_tally;
  counted = λ is. absurd (other is);
  says = Says-nothing _ e a other well;
}

-- what was written and said stays where the writer keeps its bytes
module _ (a b c : Channel) (keeps : Keeps b.bytes c.bytes) (same : c.failures ≡ b.failures) where
  Wrote-kept : (text : List ℕ) (answer : Result (Unit {0}) Unwritten) → Wrote text answer a b → Wrote text answer a c
  Wrote-kept text answer w = grind arith

  pub Says-kept : (text : List ℕ) (e said : End) → SaysText text e said a b → SaysText text e said a c
  Says-kept text Complete said p = (p.0, p.1, Wrote-kept text p.0 p.2)
  Says-kept text WriteFault said p = p
  Says-kept text e said p = grind (arith, Keeps-then)

  module _ {N : Type 0} (notes : N → Report → N → Type 0) (n m : N) where
    Headline-kept : (rules : Rules) (text given : List ℕ) (e : End) (peaks : Peaks)
        → Headline notes (fate_of rules text given e peaks) (outputs a n) (outputs b m)
        → Headline notes (fate_of rules text given e peaks) (outputs a n) (outputs c m)
    Headline-kept rules text given e peaks h = grind (arith, Keeps-then)

  -- and so an answer does
  pub Answers-kept : (ask : Ask) (r : List ℕ) (at_end : Type 0) (outcome : Outcome) (reports : List Report) (said : End)
      → Answers ask (went r at_end outcome reports) said a b → Answers ask (went r at_end outcome reports) said a c
  Answers-kept ask r at_end outcome reports said says
      = grind (arith, Says-kept, AppendsPart-kept, Appends-kept, Keeps-then, Headline-kept)

-- ---- the reads of a run

-- of too few bytes the end is not that the reads ran out
pub enough-said : (ask : Ask) (r : List ℕ) (at_end : Type 0) (outcome : Outcome) (reports : List Report) (said : End)
    (old new : Channel) (reads : ℕ)
    → Answers ask (went r at_end outcome reports) said old new → IsReadWithin reads r outcome.ended → length r < reads
    → said ≡ ReadLimit → ⊥
enough-said ask r at_end outcome reports said old new reads says within few is =
    grind arith
