use Rattle.cj_stream.proofs.Common.{ap, header_end, option_map, refl}
use Rattle.cj_stream.proofs.EngineLemmas.{none_from_not_some}
use Rattle.cj_stream.proofs.FeedingLemmas.{header-lacks, IsFinished-again, IsFinished-finishes}
use Rattle.cj_stream.proofs.header_reader.HeaderReader.finish.Goals as goal

pub returns-in-Some-clause-finished : goal.returns-in-Some-clause-finished
returns-in-Some-clause-finished g c =
    IsFinished-again _ _ _ _ _ _
    (rw (← c.self.view_is) (ap (option_map header_end) c.in-Some.is)) refl refl

pub returns-clause-finished : goal.returns-clause-finished
returns-clause-finished g c =
    rw (← c.self.view_is, none_from_not_some c.self.inside.ended c.in_default.not-Some)
    (IsFinished-finishes g.S.LineSink.law c.self.inside.splitter c.finish_first.new.self _ _ c.self.inside.taken _
    (header_end c.after-end.result) c.after-end.ensures c.finish_first.ensures.carries
    (λ h. c.finish_first.ensures.memory (header-lacks c.finish_first.result h)) c.finish_first.ensures.finishes)
