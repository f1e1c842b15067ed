use Rattle.cj_stream.proofs.Common.{coordinates_left, widened, ◌≡◌}
use Rattle.cj_stream.proofs.query.extent.Range.widened_by.Given as goal

abbrev pub invariant-loop-number : goal.invariant-loop-number
invariant-loop-number l =
    widened l.range (coordinates_left l.number-iterator) ≡ widened l.fn.self (coordinates_left l.numbers)
