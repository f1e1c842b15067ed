use Rattle.cj_stream.proofs.Common.{None, ap, get_or, map, number_on, sym}
use Rattle.cj_stream.proofs.Ranges.{front-widened, Widens-no}
use Rattle.cj_stream.proofs.tally.adding.widen_all.Goals as goal

pub returns-then-not-is_at_end : goal.returns-then-not-is_at_end
returns-then-not-is_at_end c axis low =
    let front = c.widen_front-rest.ensures axis low in
    front-widened _ _ _ _ _ _ _ (sym (ap (map (number_on axis)) c.vertices.ensures)) front.1 front.2
    (c.widen_rest.ensures axis low)

pub returns-else-not-is_at_end : goal.returns-else-not-is_at_end
returns-else-not-is_at_end c axis low =
    let front = c.widen_front-rest.ensures axis low in
    let range = get_or c.widen_front-rest.new.ranges axis None in
    let none = ap (map (number_on axis)) (c.is_at_end.ensures c.if-not-is_at_end.false) in
    front-widened _ _ _ _ _ _ _ (sym (ap (map (number_on axis)) c.vertices.ensures)) front.1 front.2
    (rw none (Widens-no _))
