use Rattle.std.proofs.Common.{◌∙◌, [], inl, inr, refl, ap, sym, ◌≡◌}
use Rattle.cj_stream.proofs.NoteLemmas.{Noting-memory, noted-none}
use Rattle.cj_stream.proofs.RunLemmas.{Runs-memory, Stops-memory, Stops-read, memory-sink, unread-memory, enough-memory, enough-reads, none-counted}
use Rattle.cj_stream.proofs.running.run_within.Goals as goal
use Rattle.std.proofs.KnownBytes.{Consumes-nil}
use Rattle.cj_stream.proofs.Common.{ap, sym, ◌∙◌}
use Rattle.cj_stream.specs.Source.{source_reader}

-- The source holds the same loan to the end, so what is left in it is what the lender finds.
pub returns : goal.returns
returns g c =
    let back : c.reader-1.given.0 ≡ source_reader c.drive-ended.new.source =
    c.reader-1.given.1 (sym c.new-source.ensures.same_reference ∙ sym c.drive-ended.ensures.same_reference) in
    let runs = rw (c.new-source.ensures.reader, ← back, c.in-Ok.ensures.empty.1) at c.drive-ended.ensures.runs in
    rw c.of.ensures (record {
      runs = (runs.0, runs.1, runs.2, runs.3, runs.4, Stops-read _ _ runs.5);
      cause = c.drive-ended.ensures.cause;
      enough = enough-reads _ _ _ runs.0 _ runs.1 runs.2;
      none = λ nothing.
          let left = c.drive-ended.ensures.none nothing in
          let counts = none-counted _ _ runs.0 _ _ _ _ nothing left.2 runs.2 runs.3.account.counts in (
            back ∙ left.0 ∙ c.new-source.ensures.reader,
            left.1,
            left.3,
            inl left.2,
            counts.0,
            counts.1,
          );
      memory = λ lacks.
          let none = c.drive-ended.ensures.memory lacks in (
            none,
            memory-sink g.S.LineSink.law _ runs.0 _ _ _ _ lacks none runs.3.sink,
            noted-none g.N.ReportSink.notes _
                runs.0 _ _ _ lacks runs.4.noted,
          );
    })

pub returns-in-Err : goal.returns-in-Err
returns-in-Err g c = record {
  runs = (
    [],
    Consumes-nil _,
    unread-memory _ _ (ap (λ o. o.ended) c.without_memory.ensures),
    rw c.without_memory.ensures (Runs-memory _ _ _ _),
    rw c.without_memory.ensures (Noting-memory _ _ _),
    rw c.without_memory.ensures (Stops-memory _ _ refl),
  );
  cause = λ fault. absurd (cc (sym (ap (λ o. o.ended) c.without_memory.ensures) ∙ fault));
  enough = enough-memory _ _ _ (ap (λ o. o.ended) c.without_memory.ensures);
  none = λ _. (
    refl,
    refl,
    refl,
    inr (ap (λ o. o.ended) c.without_memory.ensures),
    ap (λ o. o.lines) c.without_memory.ensures,
    ap (λ o. o.kept) c.without_memory.ensures,
  );
  memory = λ _. (ap (λ o. o.lines) c.without_memory.ensures, refl, refl);
}
