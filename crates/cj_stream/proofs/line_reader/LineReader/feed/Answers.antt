use Rattle.cj_stream.proofs.Common.{answer_of, ap, line_end, option_map, refl}
use Rattle.cj_stream.proofs.EngineLemmas.{none_from_not_some}
use Rattle.cj_stream.proofs.FeedingLemmas.{not-going, Feeds-again, Feeds-advances, Feeds-stops}
use Rattle.cj_stream.proofs.line_reader.LineReader.feed.Goals as goal

pub returns-in-Some-clause-feeds : goal.returns-in-Some-clause-feeds
returns-in-Some-clause-feeds g c =
    Feeds-again _ _ _ _ _ _ _
    (rw (← c.self.view_is) (ap (option_map line_end) c.in-Some.is)) refl refl

pub returns-in-Ok-clause-feeds : goal.returns-in-Ok-clause-feeds
returns-in-Ok-clause-feeds g c =
    rw (← c.self.view_is, none_from_not_some c.self.inside.ended c.in_default.not-Some)
    (Feeds-advances g.S.LineSink.law c.self.inside.splitter c.take_piece.new.self _ _ c.self.inside.taken _
    c.take_piece.ensures.carries c.args.piece.now _ refl c.in-Ok.ensures.ok)

pub returns-in-Err-clause-feeds : goal.returns-in-Err-clause-feeds
returns-in-Err-clause-feeds g c =
    rw (← c.self.view_is, none_from_not_some c.self.inside.ended c.in_default.not-Some)
    (Feeds-stops g.S.LineSink.law c.self.inside.splitter c.take_piece.new.self _ _ c.self.inside.taken _
    c.take_piece.ensures.carries c.args.piece.now (line_end c.in-Err.end) (ap (answer_of line_end) c.in-Err.is)
    c.in-Err.ensures.err c.in-Err.ensures.least)

pub returns-in-Ok-clause-reports : goal.returns-in-Ok-clause-reports
returns-in-Ok-clause-reports g c =
    rw (← c.self.view_is) (λ p st going. c.take_piece.ensures.reports p (st.going going).0)

pub returns-in-Err-clause-reports : goal.returns-in-Err-clause-reports
returns-in-Err-clause-reports g c =
    rw (← c.self.view_is) (λ p st going. c.take_piece.ensures.reports p (st.going going).0)

pub returns-in-Some-clause-reports : goal.returns-in-Some-clause-reports
returns-in-Some-clause-reports g c =
    λ p st going. absurd (not-going c.args.self.now.ended (line_end c.in-Some.end)
    (rw (← c.self.view_is) (ap (option_map line_end) c.in-Some.is)) going)
