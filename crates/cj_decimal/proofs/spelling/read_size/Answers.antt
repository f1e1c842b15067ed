use Rattle.cj_decimal.proofs.Common.{drop_all, arith, sym, ◌∙◌, drop, ap, length, length-drop}
use Rattle.cj_decimal.proofs.Parts.{short_stands, digits_then_more, whole_digits, saturates_size}
use Rattle.cj_decimal.proofs.spelling.read_size.Goals as goal

pub returns-then-run-spelling-clause-reads : goal.returns-then-run-spelling-clause-reads
returns-then-run-spelling-clause-reads c =
    let s = c.args.spelling.now in
    digits_then_more _ (omega (
      arith,
      ap length c.read_long-run.ensures.stops.rest,
      length-drop
          c.read_long-run.result.stop s,
    ))

pub returns-clause-reads : goal.returns-clause-reads
returns-clause-reads c =
    let stops = c.read_long-run.ensures.stops in
    let s = c.args.spelling.now in
    let run = c.read_long-run.result in
    let none = sym stops.rest ∙ drop_all run.stop s (omega arith) in
    let whole = whole_digits (drop c.args.from s) (omega arith) none in (
      whole.0,
      saturates_size _ _ _ run.digits.extra_after_full run.digits.lost_after_full
          (rw whole.1 at (c.read_long-run.ensures.stands 0 (short_stands 0))),
    )
