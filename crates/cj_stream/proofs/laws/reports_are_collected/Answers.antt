use Rattle.cj_stream.proofs.Common.{Collects, IsAtEnd, Keeps, [], channel, output_failures, output_law, output_writer, reported_first, subst, sym}
use Rattle.cj_stream.proofs.HeadlineLemmas.{Headline-run, unhandled, unput}
use Rattle.cj_stream.proofs.NoteLemmas.{Noting-collected}
use Rattle.cj_stream.proofs.OutputLemmas.{Writes-puts}
use Rattle.cj_stream.proofs.laws.reports_are_collected.Goals as goal
use Rattle.std.proofs.KnownBytes.{Keeps-refl}

pub returns-clause-runs : goal.returns-clause-runs
returns-clause-runs g c =
    λ run left account none. Noting-collected _ _ account none

pub returns-clause-headline : goal.returns-clause-headline
returns-clause-headline g c = λ run left a b runs lacks cause.
    let contents = g.W.Write.contents in
    Headline-run Collects run (IsAtEnd left) (channel contents a) (channel contents b) []
    (reported_first run.rules run.outcome.lines run.read) runs.account
    (Writes-puts (λ o. contents (output_writer o)) output_failures run.rules run.read a b run.outcome.ended runs.puts)
    (Noting-collected run (IsAtEnd left) runs.account
    (λ is. unhandled run (IsAtEnd left) runs.account (lacks is))).noted cause lacks
    (λ is. subst (λ s. Keeps (contents (output_writer a)) (contents (output_writer s)))
    (sym (unput (output_law contents) run (IsAtEnd left) a b runs is (lacks is))) (Keeps-refl _))
