use Rattle.cj_decimal.proofs.Common.{◌≡◌, ◌+◌, Some, Ok, pos, neg_ℤ, ◌-ℤ◌, w64, to_z, of_z, refl, ap, ◌∙◌, arith, rules, slice_range, ints}
use Rattle.cj_decimal.proofs.Readings.{answer_digits, signed_answer, signed_from_body, body_of_signed}
use Rattle.cj_decimal.proofs.EightsInLine.{begun_behind, minus_first, short_behind, body_plain, body_behind, few_in, int_in, no_int}
use Rattle.cj_decimal.proofs.decimal.Decimal.read_few_signed_in.Goals as goal

pub read_word-requires-2-clause-number : goal.read_word-requires-2-clause-number
read_word-requires-2-clause-number c =
    begun_behind c.args.line.now c.args.start c.args.stop c.requires.order c.requires.within
    c.if-line-start-ne45.false c.requires.number

pub returns-then-line-start-ne45 : goal.returns-then-line-start-ne45
returns-then-line-start-ne45 c = record {
  answer =
      λ class.
      let n = c.in-Some.size in
      let short = c.in-Some.ensures.short in
      let cast : pos n ≡ to_z w64 n = omega (arith, ints, short.small) in
      answer_digits (slice_range c.args.line.now c.args.start c.args.stop) n class short ∙ ap (λ z. Ok (Some z)) cast;
  small = search rules;
  number =
      λ some.
      let line = c.args.line.now in let start = c.args.start in let stop = c.args.stop in
      let int = c.in-Some.ensures.few.0 refl in
      signed_from_body (slice_range line start stop)
      (few_in line start stop (body_plain line start stop c.requires.order c.if-line-start-ne45.true)
      c.requires.within int.1 int.0);
  few = search rules;
}

pub returns-clause-answer : goal.returns-clause-answer
returns-clause-answer c = λ class.
    let line = c.args.line.now in let start = c.args.start in let stop = c.args.stop in
    let n = c.in-Some-read_word.size in
    let short = c.in-Some-read_word.ensures.short in
    let minus = minus_first line start stop c.requires.order c.requires.within c.if-line-start-ne45.false in
    let cast : neg_ℤ (pos n) ≡ to_z w64 (of_z w64 (pos 0 -ℤ to_z w64 n)) = omega (arith, ints, short.small) in
    signed_answer class minus (short_behind line start stop c.requires.order minus short) ∙ ap (λ z. Ok (Some z)) cast

pub returns-clause-number : goal.returns-clause-number
returns-clause-number c = λ some.
    let line = c.args.line.now in let start = c.args.start in let stop = c.args.stop in
    let int = c.in-Some-read_word.ensures.few.0 refl in
    let minus = minus_first line start stop c.requires.order c.requires.within c.if-line-start-ne45.false in
    signed_from_body (slice_range line start stop)
    (few_in line (start + 1) stop (body_behind line start stop c.requires.order minus) c.requires.within int.1 int.0)

pub returns-in_default-clause-few : goal.returns-in_default-clause-few
returns-in_default-clause-few c = λ few near room.
    let line = c.args.line.now in let start = c.args.start in let stop = c.args.stop in
    let int = int_in (body_plain line start stop c.requires.order c.if-line-start-ne45.true)
    (body_of_signed (slice_range line start stop) few) in
    c.in_default.ensures.few.1 (int, near, room)

pub returns-in_default-read_word-clause-few : goal.returns-in_default-read_word-clause-few
returns-in_default-read_word-clause-few c = λ few near room.
    let line = c.args.line.now in let start = c.args.start in let stop = c.args.stop in
    let minus = minus_first line start stop c.requires.order c.requires.within c.if-line-start-ne45.false in
    let int = int_in (body_behind line start stop c.requires.order minus)
    (body_of_signed (slice_range line start stop) few) in
    c.in_default-read_word.ensures.few.1 (int, omega arith, room)

pub returns-then-start-stop-clause-few : goal.returns-then-start-stop-clause-few
returns-then-start-stop-clause-few c = λ few near room.
    let line = c.args.line.now in let start = c.args.start in let stop = c.args.stop in
    let minus = minus_first line start stop c.requires.order c.requires.within c.if-line-start-ne45.false in
    let int = int_in (body_behind line start stop c.requires.order minus)
    (body_of_signed (slice_range line start stop) few) in
    absurd (no_int line (start + 1) stop (omega arith) int)
