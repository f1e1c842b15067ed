use Rattle.cj_stream.proofs.Common.{Some, ap, arith, ints, sym, ℤ, ◌∙◌, ◌≡◌}
use Rattle.cj_stream.proofs.Ranges.{words-none, words-some}
use Rattle.cj_stream.proofs.tally.adding.range_of_words.Goals as goal

pub word_value-requires : goal.word_value-requires
word_value-requires c =
    let s = words-some _ _ c.requires.1 c.if-words-eq18446744073709551615.false in (s.0, s.2)

pub word_value-requires-2 : goal.word_value-requires-2
word_value-requires-2 c =
    let s = words-some _ _ c.requires.1 c.if-words-eq18446744073709551615.false in (s.1, s.3)

abbrev pair : ℤ → ℤ → ℤ × ℤ
pair p q = (p, q)

both : (p q s t : ℤ) → p ≡ s → q ≡ t → pair p q ≡ pair s t
both p q s t e f = ap (λ k. pair k q) e ∙ ap (pair s) f

pub returns-then-words-eq18446744073709551615 : goal.returns-then-words-eq18446744073709551615
returns-then-words-eq18446744073709551615 c r are =
    sym (words-none _ r are c.if-words-eq18446744073709551615.true)

pub returns : goal.returns
returns c r are =
    let s = words-some _ r are c.if-words-eq18446744073709551615.false in
    let low = c.word_value.ensures.value s.0 s.2 in
    let high = c.word_value-2.ensures.value s.1 s.3 in
    ap (λ q. Some q) (both _ _ _ _ (omega (arith, ints, low, c.word_value.ensures.small))
    (omega (arith, ints, high, c.word_value-2.ensures.small))) ∙ sym s.4
