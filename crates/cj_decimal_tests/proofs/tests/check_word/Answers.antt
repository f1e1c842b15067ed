use Rattle.cj_decimal_tests.proofs.tests.check_word.Goals as goal

pub word_value-requires : goal.word_value-requires
word_value-requires g c = (c.args.count, c.digits_word-word.ensures.word.few c.if-count-lt100000000.true)
