use Rattle.std.proofs.Common.{arith}
use Rattle.cj_stream.proofs.BoxLemmas.{at_most-range, at_least-range}
use Rattle.cj_stream.proofs.query.extent.Range.meets.Goals as goal

pub returns-then-is_at_most : goal.returns-then-is_at_most
returns-then-is_at_most c = λ ns e.
    grind (
      arith,
      at_most-range c.args.map.now c.args.high c.args.self ns e,
      at_least-range c.args.map.now c.args.low
          c.args.self ns e,
    )

pub returns-else-is_at_most : goal.returns-else-is_at_most
returns-else-is_at_most c = λ ns e.
    grind (arith, at_most-range c.args.map.now c.args.high c.args.self ns e)
