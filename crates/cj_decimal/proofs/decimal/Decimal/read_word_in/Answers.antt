use Rattle.cj_decimal.proofs.Common.{slice_range}
use Rattle.cj_decimal.proofs.Below.{word_answer}
use Rattle.cj_decimal.proofs.decimal.Decimal.read_word_in.Goals as goal

pub returns : goal.returns
returns c =
    let read = c.read_digits_word in
    word_answer read.result (slice_range c.args.line.now c.args.start c.args.stop) (λ some. (read.ensures.few.0 some).0)
    read.ensures.word
