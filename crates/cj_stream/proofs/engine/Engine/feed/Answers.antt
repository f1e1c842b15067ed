use Rattle.std.proofs.Common.{refl}
use Rattle.cj_stream.proofs.FeedingLemmas.{Feeds-advances, Feeds-stops}
use Rattle.cj_stream.proofs.engine.Engine.feed.Goals as goal

pub returns-in-Ok-clause-feeds : goal.returns-in-Ok-clause-feeds
returns-in-Ok-clause-feeds g c =
    rw (← c.self.view_is, c.in_default.is)
    (Feeds-advances g.S.LineSink.law c.self.inside.splitter c.take.new.self _ _ c.self.inside.taken _
    c.take.ensures.carries c.args.piece.now _ refl c.in-Ok.ensures.ok)

pub returns-in-Err-clause-feeds : goal.returns-in-Err-clause-feeds
returns-in-Err-clause-feeds g c =
    rw (← c.self.view_is, c.in_default.is)
    (Feeds-stops g.S.LineSink.law c.self.inside.splitter c.take.new.self _ _ c.self.inside.taken _
    c.take.ensures.carries c.args.piece.now c.in-Err.end c.in-Err.is c.in-Err.ensures.err c.in-Err.ensures.least)

pub returns-in-Ok-clause-reports : goal.returns-in-Ok-clause-reports
returns-in-Ok-clause-reports g c = rw (← c.self.view_is) (λ p st going. c.take.ensures.reports p (st.going going).0)

pub returns-in-Err-clause-reports : goal.returns-in-Err-clause-reports
returns-in-Err-clause-reports g c = rw (← c.self.view_is) (λ p st going. c.take.ensures.reports p (st.going going).0)
