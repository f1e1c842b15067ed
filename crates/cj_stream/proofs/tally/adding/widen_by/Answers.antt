use Rattle.cj_stream.proofs.Common.{ap, map, number_on, rules, vertices_left}
use Rattle.cj_stream.proofs.Ranges.{Widening-start, Widening-step, Widening-end, numbers-first, on_axes}
use Rattle.cj_stream.proofs.tally.adding.widen_by.Goals as goal

pub loop-x-init : goal.loop-x-init
loop-x-init c =
    let all = ap vertices_left c.into_iter-x-iterator.ensures.into_iter_gives in
    record {
      on_x = Widening-start _ _ _ (ap (map (number_on 0)) all);
      on_y = Widening-start _ _ _ (ap (map (number_on 1)) all);
      on_z = Widening-start _ _ _ (ap (map (number_on 2)) all);
    }

pub loop-x-preserved : goal.loop-x-preserved
loop-x-preserved c =
    let v = c.in-Some.field-0 in
    let s = c.loop-x.invariant in
    record {
      on_x = Widening-step _ _ _ _ _ _ _ (numbers-first 0 _ _ _ v (search rules) c.in-Some.ensures.steps)
          c.widened-on_x.ensures
          s.on_x;
      on_y = Widening-step _ _ _ _ _ _ _ (numbers-first 1 _ _ _ v (search rules) c.in-Some.ensures.steps)
          c.widened-on_y.ensures
          s.on_y;
      on_z = Widening-step _ _ _ _ _ _ _ (numbers-first 2 _ _ _ v (search rules) c.in-Some.ensures.steps)
          c.widened-on_z.ensures
          s.on_z;
    }

pub returns : goal.returns
returns c =
    let none = c.in-None.ensures.steps.0 in
    let s = c.loop-x.invariant in
    on_axes _
    (Widening-end _ _ _ _ (ap (map (number_on 0)) none) s.on_x)
    (Widening-end _ _ _ _ (ap (map (number_on 1)) none) s.on_y)
    (Widening-end _ _ _ _ (ap (map (number_on 2)) none) s.on_z)
