use Rattle.cj_decimal.proofs.Common.{◌<◌, ℕ, nat_lt, refl, arith, digits_value}
use Rattle.std.specs.Prelude.{slice_range, IsTrue}
use Rattle.cj_decimal.proofs.Below.{below_bound, word_below, word_short}
use Rattle.cj_decimal.proofs.word.is_below.Goals as goal

less : (a b : ℕ) → IsTrue (nat_lt a b) → a < b
less a b h = grind arith

more : (a b : ℕ) → a < b → IsTrue (nat_lt a b)
more a b h = grind arith

pub returns-in-Some-clause-short : goal.returns-in-Some-clause-short
returns-in-Some-clause-short c =
    λ holds n is_bound.
    let s = slice_range c.args.line.now c.args.start c.args.stop in
    let digits = c.in-Some.digits in
    let word = c.in-Some.ensures.word in (
      digits_value s,
      below_bound digits (digits_value s) c.args.word n word (less digits c.args.word holds) is_bound,
      word_short s digits {n = digits_value s} (c.in-Some.ensures.few.0 refl).0 word refl,
    )

pub returns-in-Some-clause-all : goal.returns-in-Some-clause-all
returns-in-Some-clause-all c =
    λ int near room n count below.
    let s = slice_range c.args.line.now c.args.start c.args.stop in
    more c.in-Some.digits c.args.word
    (word_below c.in-Some.digits (digits_value s) c.in-Some.ensures.word count below)
