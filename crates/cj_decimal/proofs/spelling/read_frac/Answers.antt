use Rattle.cj_decimal.proofs.Common.{arith, sym, ◌∙◌, drop, ap, length, ◌+◌, begins_digit, digits_front, digits_rest}
use Rattle.cj_decimal.proofs.Parts.{begins_within, drop_one, first_digit_there}
use Rattle.cj_decimal.proofs.Grammar.{frac_bare, frac_pointed}
use Rattle.cj_decimal.proofs.spelling.read_frac.Goals as goal

pub returns-then-not-has_byte-clause-reads : goal.returns-then-not-has_byte-clause-reads
returns-then-not-has_byte-clause-reads c =
    let bare = frac_bare (drop c.args.from c.args.spelling.now) (sym c.has_byte.ensures ∙ c.if-not-has_byte.true) in
    (bare.0, sym bare.2, ap length bare.1, λ n s. rw bare.1 s)

pub returns-clause-reads : goal.returns-clause-reads
returns-clause-reads c =
    let s = c.args.spelling.now in
    let point = sym c.has_byte.ensures ∙ c.if-not-has_byte.false in
    let pointed = frac_pointed (drop c.args.from s) point in
    let next = drop_one s c.args.from (begins_within 46 s c.args.from point) in
    let stops = c.read_digits-run.ensures.stops in
    let digits = pointed.1 ∙ ap digits_front next in (
      pointed.0 ∙ ap begins_digit next
          ∙ first_digit_there (drop (c.args.from + 1) s) (omega arith),
      stops.rest ∙ sym (pointed.2 ∙ ap digits_rest next),
      ap length digits ∙ omega arith,
      λ n t. rw digits (c.read_digits-run.ensures.stands n t),
    )
