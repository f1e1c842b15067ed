use Rattle.cj_decimal.proofs.Common.{drop_all, arith, sym, ◌∙◌, length-drop, ints}
use Rattle.cj_decimal.proofs.Parts.{exp_none, exp_unmarked, marked_at, saturates_read}
use Rattle.cj_decimal.proofs.spelling.read_exponent.Goals as goal

pub returns-then-from-spelling-clause-reads : goal.returns-then-from-spelling-clause-reads
returns-then-from-spelling-clause-reads c = exp_none (drop_all c.args.from c.args.spelling.now (omega arith))

pub returns-then-not-has_one_of-clause-reads : goal.returns-then-not-has_one_of-clause-reads
returns-then-not-has_one_of-clause-reads c =
    exp_unmarked _ (omega (arith, length-drop c.args.from c.args.spelling.now))
    (sym c.has_one_of.ensures ∙ c.if-not-has_one_of.true)

pub returns-in-None-clause-reads : goal.returns-in-None-clause-reads
returns-in-None-clause-reads c =
    let marked =
    marked_at c.args.spelling.now c.args.from c.after_sign-first.result
    (sym c.has_one_of.ensures ∙ c.if-not-has_one_of.false) c.after_sign-first.ensures.digits in
    marked.0 ∙ c.in-None.ensures.reads

pub returns-then-has_byte-clause-reads : goal.returns-then-has_byte-clause-reads
returns-then-has_byte-clause-reads c =
    let marked =
    marked_at c.args.spelling.now c.args.from c.after_sign-first.result
    (sym c.has_one_of.ensures ∙ c.if-not-has_one_of.false) c.after_sign-first.ensures.digits in
    let answer = c.in-Some.ensures in (
      marked.0 ∙ answer.reads.0,
      saturates_read _
          marked.1 (sym c.has_byte.ensures ∙ c.if-has_byte.true) (omega (arith, ints)) answer.reads.1,
    )

pub returns-else-has_byte-clause-reads : goal.returns-else-has_byte-clause-reads
returns-else-has_byte-clause-reads c =
    let marked =
    marked_at c.args.spelling.now c.args.from c.after_sign-first.result
    (sym c.has_one_of.ensures ∙ c.if-not-has_one_of.false) c.after_sign-first.ensures.digits in
    let answer = c.in-Some.ensures in (
      marked.0 ∙ answer.reads.0,
      saturates_read _
          marked.1 (sym c.has_byte.ensures ∙ c.if-has_byte.false) (omega (arith, ints)) answer.reads.1,
    )
