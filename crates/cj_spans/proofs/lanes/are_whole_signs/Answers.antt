use Rattle.cj_spans.proofs.Common.{◌≡◌, ◌+◌, ◌-◌, ◌^◌, ◌<◌, inl, inr, subst, arith, cases_lt, nat_tests, byte, IsWholeSign}
use Rattle.cj_spans.proofs.lanes.are_whole_signs.Goals as goal

pub returns-then-count-lt-LANES : goal.returns-then-count-lt-LANES
returns-then-count-lt-LANES c low k from to =
    let b = c.args.line.now in
    let n = k - (c.args.to - 16) in
    let e : c.args.to - 16 + n ≡ k = omega arith in
    let s = 16 - (c.args.to - c.args.from) in
    let less : c.mark_foreign-marks.result < 2 ^ s = grind (arith, nat_tests) in
    subst (λ m. IsWholeSign (byte b m)) e (c.mark_foreign-marks.ensures s n less (omega arith) (omega arith))

pub returns-then-marks-eq0 : goal.returns-then-marks-eq0
returns-then-marks-eq0 c none k from to =
    let b = c.args.line.now in
    let zero = c.if-marks-eq0.true in
    elim (cases_lt k (c.args.from + 16)) [
      | inl l ↦
          let n = k - c.args.from in
          let e : c.args.from + n ≡ k = omega arith in
          subst (λ m. IsWholeSign (byte b m)) e
          (c.mark_foreign.ensures 0 n (grind (arith, nat_tests)) (omega arith) (omega arith))
      | inr g ↦
          let n = k - (c.args.to - 16) in
          let e : c.args.to - 16 + n ≡ k = omega arith in
          subst (λ m. IsWholeSign (byte b m)) e
          (c.mark_foreign-marks.ensures 0 n (omega arith) (omega arith) (omega arith))
    ]
