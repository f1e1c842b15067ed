use Rattle.cj_stream.proofs.tally.adding.widen_on.Goals as goal

pub returns-in-Some-clause-taken : goal.returns-in-Some-clause-taken
returns-in-Some-clause-taken c holds =
    let e = c.in-Some.ensures in (
      e.0,
      e.1,
      e.2,
      rw e.5
          (c.widened_words.ensures e.3 e.4),
    )
