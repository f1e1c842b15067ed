use Rattle.cj_decimal.proofs.Common.{refl, arith}
use Rattle.cj_decimal.proofs.Below.{spelled, bound_of_word}
use Rattle.cj_decimal.proofs.word.digits_word.Goals as goal

pub returns-then-count-lt10 : goal.returns-then-count-lt10
returns-then-count-lt10 c =
    let small = c.if-count-lt10.true in
    let word = spelled c.args.count 0 0 0 0 0 0 0 c.args.count (omega arith) (omega arith) refl refl
    refl refl refl refl (omega arith) in record {
      word = record { few = λ few. word; more = λ more. absurd (omega arith) };
      below = bound_of_word c.args.count c.args.count word;
    }

pub returns : goal.returns
returns c =
    let small = c.if-count-ge-NINE_DIGITS.false in
    let word = spelled c.args.count _ _ _ _ _ _ _ _ small refl refl refl refl refl refl refl refl in record {
      word = record { few = λ few. word; more = λ more. absurd (omega arith) };
      below = bound_of_word _ c.args.count word;
    }
