use Rattle.cj_stream.proofs.Common.{answer_of, ap, arith, header_end, length-take, option_map, refl, take}
use Rattle.cj_stream.proofs.EngineLemmas.{none_from_not_some}
use Rattle.cj_stream.proofs.FeedingLemmas.{Feeds-again, Feeds-advances, Feeds-stops}
use Rattle.cj_stream.proofs.header_reader.HeaderReader.feed.Goals as goal

pub returns-in-Some-clause-feeds : goal.returns-in-Some-clause-feeds
returns-in-Some-clause-feeds g c =
    Feeds-again _ _ _ _ _ _ _
    (rw (← c.self.view_is) (ap (option_map header_end) c.in-Some.is)) refl refl

pub returns-in-Ok-clause-feeds : goal.returns-in-Ok-clause-feeds
returns-in-Ok-clause-feeds g c =
    rw (← c.self.view_is, none_from_not_some c.self.inside.ended c.in_default.not-Some)
    (Feeds-advances g.S.LineSink.law c.self.inside.splitter c.take_front.new.self _ _ c.self.inside.taken _
    c.take_front.ensures.carries (take c.in-Ok.progress.used c.args.piece.now) _
    (omega (arith, length-take c.in-Ok.progress.used c.args.piece.now, c.in-Ok.ensures.front.within))
    c.in-Ok.ensures.ok)

pub returns-in-Err-clause-feeds : goal.returns-in-Err-clause-feeds
returns-in-Err-clause-feeds g c =
    rw (← c.self.view_is, none_from_not_some c.self.inside.ended c.in_default.not-Some)
    (Feeds-stops g.S.LineSink.law c.self.inside.splitter c.take_front.new.self _ _ c.self.inside.taken _
    c.take_front.ensures.carries c.args.piece.now (header_end c.in-Err.end) (ap (answer_of header_end) c.in-Err.is)
    c.in-Err.ensures.err c.in-Err.ensures.least)
