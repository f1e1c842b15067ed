use Rattle.cj_spans.proofs.Common.{sym, drop}
use Rattle.cj_spans.proofs.Texts.{letter_read}
use Rattle.cj_spans.proofs.text.decode.read_any_escape.Goals as goal

pub returns-in-None : goal.returns-in-None
returns-in-None c = λ cs e a.
    let t = c.char_at-slash.ensures cs e in
    letter_read (sym (c.in-None.ensures.is cs e)) a t (c.char_at-letter.ensures (drop 1 cs) t.rest) c.escaped.ensures
