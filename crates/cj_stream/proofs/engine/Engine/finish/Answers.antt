use Rattle.cj_stream.proofs.Common.{answer_of, arith, header_end, refl, ◌∙◌}
use Rattle.cj_stream.proofs.FeedingLemmas.{header-lacks, never-lacks, IsFinished-finishes}
use Rattle.cj_stream.proofs.FinishLemmas.{Counts-finished}
use Rattle.cj_stream.proofs.NoteLemmas.{Notes-first}
use Rattle.cj_stream.proofs.engine.Engine.finish.Goals.{then-lines-gt0, else-lines-gt0}
use Rattle.cj_stream.proofs.engine.Engine.finish.Goals as goal

pub returns-clause-finished : goal.returns-clause-finished
returns-clause-finished g c =
    elim c.if-lines-gt0.branch [
      | then-lines-gt0 w ↦ rw (← c.self.view_is, c.in_default.is, w.self-inside-is, w.sink-is)
          (IsFinished-finishes _ _ _ _ _ _
          _ _ (w.end-is ∙ w.from-end.ensures ∙ w.after.ensures)
          w.finish.ensures.carries (never-lacks _) w.finish.ensures.finishes)
      | else-lines-gt0 w ↦ rw (← c.self.view_is, c.in_default.is, w.self-inside-is, w.sink-is)
          (IsFinished-finishes _ _ _ _ _ _
          _ _
          (w.end-is ∙ w.from-end-else-lines-gt0.ensures ∙ w.after-else-lines-gt0.ensures)
          w.finish_first.ensures.carries (λ h. w.finish_first.ensures.memory (header-lacks _ h))
          w.finish_first.ensures.finishes)
    ]

pub returns-clause-reports : goal.returns-clause-reports
returns-clause-reports g c =
    elim c.if-lines-gt0.branch [
      | then-lines-gt0 w ↦ rw (← c.self.view_is, w.self-inside-is, w.reports-is)
          (λ p st going. w.finish.ensures.reports p (st.going going).0)
      | else-lines-gt0 w ↦ rw (← c.self.view_is, w.self-inside-is, w.reports-is) (λ p st going.
          let counts = Counts-finished g.S.LineSink.law c.self.inside.splitter.reading w.finish_first.new.self.reading
          c.args.sink.now w.finish_first.new.sink p (st.going going).0 (answer_of header_end w.finish_first.result)
          (w.finish_first.ensures.finishes.answers p (st.going going).0) in
          Notes-first g.N.ReportSink.notes c.self.inside.splitter.reading.rules p c.self.inside.splitter.reading.lines
          w.finish_first.new.self.reading.lines _ _
          (omega (arith, w.if-lines-gt0.false, c.lines.ensures)) w.finish_first.ensures.few counts.counted.good refl)
    ]
