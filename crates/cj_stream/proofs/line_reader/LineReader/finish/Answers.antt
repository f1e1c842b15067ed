use Rattle.cj_stream.proofs.Common.{ap, line_end, option_map, refl}
use Rattle.cj_stream.proofs.EngineLemmas.{none_from_not_some}
use Rattle.cj_stream.proofs.FeedingLemmas.{never-lacks, not-going, IsFinished-again, IsFinished-finishes}
use Rattle.cj_stream.proofs.line_reader.LineReader.finish.Goals as goal

pub returns-in-Some-clause-finished : goal.returns-in-Some-clause-finished
returns-in-Some-clause-finished g c =
    IsFinished-again _ _ _ _ _ _
    (rw (← c.self.view_is) (ap (option_map line_end) c.in-Some.is)) refl refl

pub returns-clause-finished : goal.returns-clause-finished
returns-clause-finished g c =
    rw (← c.self.view_is, none_from_not_some c.self.inside.ended c.in_default.not-Some)
    (IsFinished-finishes g.S.LineSink.law c.self.inside.splitter c.finish.new.self _ _ c.self.inside.taken _
    (line_end c.after-end.result) c.after-end.ensures c.finish.ensures.carries (never-lacks c.finish.result)
    c.finish.ensures.finishes)

pub returns-clause-reports : goal.returns-clause-reports
returns-clause-reports g c = rw (← c.self.view_is) (λ p st going. c.finish.ensures.reports p (st.going going).0)

pub returns-in-Some-clause-reports : goal.returns-in-Some-clause-reports
returns-in-Some-clause-reports g c =
    λ p st going. absurd (not-going c.args.self.now.ended (line_end c.in-Some.end)
    (rw (← c.self.view_is) (ap (option_map line_end) c.in-Some.is)) going)
