use Rattle.cj_stream.proofs.Common.{IsAtEnd, Keeps, channel, output_failures, output_law, output_writer, subst, sym}
use Rattle.cj_stream.proofs.CutLemmas.{Copies-puts}
use Rattle.cj_stream.proofs.HeadlineLemmas.{Headline-run, unput}
use Rattle.cj_stream.proofs.OutputLemmas.{Writes-puts, WritesLines-said}
use Rattle.cj_stream.proofs.laws.puts_are_written.Goals as goal
use Rattle.std.proofs.KnownBytes.{Keeps-refl}

pub returns-clause-runs : goal.returns-clause-runs
returns-clause-runs g c = λ r e a b puts. Writes-puts (λ o. g.W.Write.contents (output_writer o)) output_failures
    r.rules r.bytes a b e puts

pub returns-clause-lines : goal.returns-clause-lines
returns-clause-lines g c = λ run left a b runs none.
    WritesLines-said _ _ _ _ _ a
    b _ none runs.sink

pub returns-clause-headline : goal.returns-clause-headline
returns-clause-headline g c = λ run left a b n m runs noting lacks cause.
    let contents = g.W.Write.contents in
    Headline-run g.N.ReportSink.notes run (IsAtEnd left) (channel contents a) (channel contents b) n m runs.account
    (Writes-puts (λ o. contents (output_writer o)) output_failures run.rules run.read a b run.outcome.ended runs.puts)
    noting.noted cause lacks
    (λ is. subst (λ s. Keeps (contents (output_writer a)) (contents (output_writer s)))
    (sym (unput (output_law contents) run (IsAtEnd left) a b runs is (lacks is))) (Keeps-refl _))

pub returns-clause-pieces : goal.returns-clause-pieces
returns-clause-pieces g c = λ cut e a b puts. Copies-puts (λ o. g.W.Write.contents (output_writer o)) output_failures
    cut.rules cut.pieces cut.taken a b e puts
