use Rattle.cj_stream.proofs.Common.{cond, length, map, number_on, vertices_left, ◌+◌}
use Rattle.cj_stream.proofs.Ranges.{OnWay}
use Rattle.cj_stream.proofs.tally.adding.widen_front.Given as goal

abbrev pub invariant-loop-going : goal.invariant-loop-going
invariant-loop-going l = record {
  on_x : OnWay l.going (map (number_on 0) (vertices_left l.fn.vertices)) l.on_x
      (map (number_on 0) (vertices_left l.left));
  on_y : OnWay l.going (map (number_on 1) (vertices_left l.fn.vertices)) l.on_y
      (map (number_on 1) (vertices_left l.left));
  on_z : OnWay l.going (map (number_on 2) (vertices_left l.fn.vertices)) l.on_z
      (map (number_on 2) (vertices_left l.left));
}

abbrev pub decreases-loop-going : goal.decreases-loop-going
decreases-loop-going l = length (vertices_left l.left) + cond l.going 1 0
