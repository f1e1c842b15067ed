use Rattle.cj_spans.proofs.Common.{drop}
use Rattle.cj_spans.proofs.Texts.{digits_read, rest_two, rest_three}
use Rattle.cj_spans.proofs.text.decode.read_digits.Goals as goal

pub returns-clause-reads : goal.returns-clause-reads
returns-clause-reads c = λ cs e.
    let t = c.char_at-first.ensures cs e in
    let u = c.char_at-second.ensures (drop 1 cs) t.rest in
    let v = c.char_at-third.ensures (drop 2 cs) (rest_two t u) in
    let w = c.char_at-fourth.ensures (drop 3 cs) (rest_three cs v) in
    digits_read t u v w c.digit_value.ensures.value c.digit_value-2.ensures.value
    c.digit_value-3.ensures.value c.digit_value-4.ensures.value
