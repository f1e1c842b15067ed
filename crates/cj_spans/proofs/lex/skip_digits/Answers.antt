use Rattle.cj_spans.proofs.Atoms.{read_run, read_to}
use Rattle.cj_spans.proofs.lex.skip_digits.Goals as goal

pub returns-in-Some-clause-same : goal.returns-in-Some-clause-same
returns-in-Some-clause-same c = λ i x r.
    let f = c.in-Some.ensures.found in
    read_to c.in-Some.stop f.0 (λ j low high. c.requires.stays _ (f.2 j low high)) r

pub returns-in-None-clause-same : goal.returns-in-None-clause-same
returns-in-None-clause-same c = λ i x r.
    c.skip_digits_singly-in-None.ensures.same i x (read_run 16
    (λ j low high. c.requires.stays _ (c.in-None.ensures.none j low high)) r)
