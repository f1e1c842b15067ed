use Rattle.std.proofs.Common.{◌≡◌, ◌+◌, ◌≤◌, length, take, sum, vec_len, vec_capacity}
use Rattle.cj_stream.proofs.query.ids.join_last.Given as goal

abbrev pub invariant-loop-last : goal.invariant-loop-last
invariant-loop-last l = record {
  front : l.runs.items ≡ take (length l.runs.items) l.fn.runs.items;
  room : vec_len l.runs ≤ vec_len l.fn.runs;
  capacity : vec_capacity l.runs ≡ vec_capacity l.fn.runs;
  count : sum l.runs.items + l.count ≡ sum l.fn.runs.items + 1;
}

abbrev pub decreases-loop-last : goal.decreases-loop-last
decreases-loop-last l = length l.runs.items
