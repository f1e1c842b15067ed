use Rattle.cj_spans.proofs.Common.{arith}
use Rattle.cj_spans.proofs.Sizes.{before_walked}
use Rattle.cj_spans.proofs.next.first_from.Goals as goal

pub loop-next-preserved : goal.loop-next-preserved
loop-next-preserved c =
    let h = c.loop-next-test.true in (
      before_walked _ _ _ _ _ c.token_at.ensures
          c.if-token_at-stop.false c.loop-next.invariant.0,
      omega arith,
    )
