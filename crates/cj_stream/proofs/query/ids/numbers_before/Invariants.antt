use Rattle.std.proofs.Common.{◌≤◌, length}
use Rattle.cj_stream.proofs.query.ids.numbers_before.Given as goal

abbrev pub invariant-loop-rest : goal.invariant-loop-rest
invariant-loop-rest l = length l.rest ≤ length l.fn.sparse_index

abbrev pub decreases-loop-rest : goal.decreases-loop-rest
decreases-loop-rest l = length l.rest
