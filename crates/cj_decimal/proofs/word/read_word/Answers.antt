use Rattle.cj_decimal.proofs.Common.{refl, slice_range, digits_value}
use Rattle.cj_decimal.proofs.Below.{word_short}
use Rattle.cj_decimal.proofs.word.read_word.Goals as goal

pub returns-in-Some-clause-short : goal.returns-in-Some-clause-short
returns-in-Some-clause-short c =
    let s = slice_range c.args.line.now c.args.start c.args.stop in
    let word = c.in-Some.ensures.word in
    word_short s c.in-Some.digits (c.in-Some.ensures.few.0 refl).0 word
    (c.word_value.ensures.value (digits_value s) word)
