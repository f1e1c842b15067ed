use Rattle.cj_stream.proofs.Common.{Some, map, number_on, vertices_left}
use Rattle.cj_stream.proofs.Ranges.{Widening}
use Rattle.cj_stream.proofs.tally.adding.widen_by.Given as goal

abbrev pub invariant-loop-x : goal.invariant-loop-x
invariant-loop-x l = record {
  on_x : Widening (Some l.initial.on_x) (map (number_on 0) (vertices_left l.fn.vertices)) (Some l.on_x)
      (map (number_on 0) (vertices_left l.x-iterator));
  on_y : Widening (Some l.initial.on_y) (map (number_on 1) (vertices_left l.fn.vertices)) (Some l.on_y)
      (map (number_on 1) (vertices_left l.x-iterator));
  on_z : Widening (Some l.initial.on_z) (map (number_on 2) (vertices_left l.fn.vertices)) (Some l.on_z)
      (map (number_on 2) (vertices_left l.x-iterator));
}
