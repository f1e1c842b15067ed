use Rattle.cj_spans.proofs.Common.{drop}
use Rattle.cj_spans.proofs.Texts.{rest_two, takes_on}
use Rattle.cj_spans.proofs.text.decode.read_ascii_unit.Goals as goal

pub returns-then-mark-clause-reads : goal.returns-then-mark-clause-reads
returns-then-mark-clause-reads c = λ cs e.
    let t = c.ascii_at-slash.ensures.reads cs e in
    let u = c.ascii_at-mark.ensures.reads (drop 1 cs) t.rest in
    takes_on _ 2 4 _ (takes_on _ 1 1 _ t u) (c.read_ascii_digits.ensures.reads (drop 2 cs) (rest_two t u))
