use Rattle.cj_decimal.proofs.Common.{◌∙◌, sym}
use Rattle.cj_decimal.proofs.Below.{eight_of_word, eight_room}
use Rattle.cj_decimal.proofs.word.word_value.Goals as goal

pub value_of-requires : goal.value_of-requires
value_of-requires c =
    let eight = eight_of_word c.args.word c.requires.0 c.requires.1 in
    eight_room eight.0 eight.1 eight.2 (c.swap_bytes.ensures ∙ eight.3)

pub returns-clause-value : goal.returns-clause-value
returns-clause-value c = λ n is.
    let eight = eight_of_word c.args.word n is in
    c.value_of.ensures.value eight.0 eight.1 eight.2 (c.swap_bytes.ensures ∙ eight.3) ∙ sym eight.4
