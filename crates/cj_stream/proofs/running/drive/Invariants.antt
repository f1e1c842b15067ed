use Rattle.cj_stream.proofs.Common.{Consumes, Delivers, List, None, Notes, StandsFor, false, length, lines_of, rules_of, stretch, ℕ, ◌*◌, ◌≡◌, ◌≤◌}
use Rattle.cj_stream.specs.Source.{source_reader, source_name, reads_of, has_failed}
use Rattle.cj_stream.proofs.running.drive.Given as goal

abbrev pub invariant-loop-i : goal.invariant-loop-i
invariant-loop-i g l =
    (length l.buffer ≡ 8192) × (l.engine.taken ≤ 8192 * l._i) × (l.engine.ended ≡ None)
    × (rules_of l.engine ≡ rules_of l.initial.engine)
    × (g.S.LineSink.law.failures l.initial.sink ≤ g.S.LineSink.law.failures l.sink)
    × ((r : List ℕ)
    × Consumes (g.R.Read.remaining (source_reader l.initial.source)) (g.R.Read.remaining (source_reader l.source)) r
    × StandsFor l.engine r
    × Delivers g.S.LineSink.law (stretch (rules_of l.initial.engine) r 0 (lines_of l.engine)) l.initial.sink l.sink None
    × (l._i ≤ length r)
    × Notes g.N.ReportSink.notes (stretch (rules_of l.initial.engine) r 0 (lines_of l.engine))
    l.initial.reports l.reports)
    × (has_failed l.source ≡ false) × (source_name l.source ≡ source_name l.initial.source) × (reads_of l.source ≡ l._i)
    × (l._i ≡ 0 → (source_reader l.source ≡ source_reader l.initial.source)
    × (l.sink ≡ l.initial.sink) × (l.reports ≡ l.initial.reports))
