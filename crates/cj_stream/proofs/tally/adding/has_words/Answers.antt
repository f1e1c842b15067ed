use Rattle.cj_stream.proofs.Common.{AreWordsOf, IsWordOf, None, Option, Some, ap, arith, ints, of_z, pos, rules, sym, to_z, w64, wider, ℕ, ℤ, ◌∙◌, ◌≡◌, ◌≤ℤ◌}
use Rattle.cj_stream.proofs.Ranges.{words-some, words-top, wider-none, wider-within}
use Rattle.cj_stream.proofs.tally.adding.has_words.Goals as goal

pub word_value-requires : goal.word_value-requires
word_value-requires c = let n = words-top _ _ c.requires.1 in (n.0, n.1)

-- a range with these ends has the numbers of the words
inside : (range r : Option (ℤ × ℤ)) (least greatest : ℤ) (a b : ℕ) → range ≡ Some (least, greatest)
    → r ≡ Some (pos a, pos b) → least ≤ℤ pos a → pos b ≤ℤ greatest → wider range r ≡ range
inside range r least greatest a b e f l h =
    ap (wider range) f ∙ ap (λ q. wider q (Some (pos a, pos b))) e
    ∙ wider-within _ _ _ _ l h
    ∙ sym e

-- one that begins at 0 or below has them if it has the greatest
inside-low : (range r : Option (ℤ × ℤ)) (words : ℕ × ℕ) (least greatest : ℤ) → AreWordsOf words r
    → range ≡ Some (least, greatest) → least ≤ℤ pos 0
    → ((n : ℕ) → IsWordOf words.1 n → pos n ≤ℤ greatest) → wider range r ≡ range
inside-low range None words least greatest are e l h = wider-none _
inside-low range (Some q) words least greatest are e l h =
    inside _ _ _ _ _ _ e (ap (λ p. Some p) are.4) (grind (arith, ints))
    (h are.1 are.3)

pub returns-then-least-le0 : goal.returns-then-least-le0
returns-then-least-le0 c holds r are =
    let low : to_z w64 (of_z w64 c.in-Some.least) ≡ c.in-Some.least = search rules in
    let high : to_z w64 (of_z w64 c.in-Some.greatest) ≡ c.in-Some.greatest = search rules in
    inside-low _ r c.args.words _ _ are c.in-Some.is (grind (arith, ints, holds, low)) (λ n word.
    let value = c.word_value.ensures.value n word in
    let top : to_z w64 c.word_value.result ≡ pos n = omega (arith, ints, value, c.word_value.ensures.small) in
    grind (arith, ints, c.if-word_value-greatest.true, high, top))

pub returns-then-words-ne18446744073709551615 : goal.returns-then-words-ne18446744073709551615
returns-then-words-ne18446744073709551615 c holds r are =
    let s = words-some c.args.words r are c.if-words-ne18446744073709551615.true in
    let low : to_z w64 (of_z w64 c.in-Some.least) ≡ c.in-Some.least = search rules in
    let high : to_z w64 (of_z w64 c.in-Some.greatest) ≡ c.in-Some.greatest = search rules in
    let least = c.word_value-then-words-ne18446744073709551615 in
    let value = c.word_value.ensures.value s.1 s.3 in
    let top : to_z w64 c.word_value.result ≡ pos s.1 = omega (arith, ints, value, c.word_value.ensures.small) in
    let other = least.ensures.value s.0 s.2 in
    let bottom : to_z w64 least.result ≡ pos s.0 = omega (arith, ints, other, least.ensures.small) in
    inside _ _ _ _ s.0 s.1 c.in-Some.is s.4 (grind (arith, ints, holds, low, bottom))
    (grind (arith, ints, c.if-word_value-greatest.true, high, top))
