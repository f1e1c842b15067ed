use Rattle.cj_geometry.proofs.Common.{ap, arith, last_of, length, length-take-le, limit_in, members_of, names_in, not, refl, source_of, take, tree, ◌<◌, ◌∙◌}
use Rattle.cj_geometry.proofs.Distinct.{reached_more, all_reached}
use Rattle.cj_geometry.proofs.Rooms.{are_next, none_left, room_kept, first_held, none_there}
use Rattle.cj_geometry.proofs.rule.names.check_in_order.Goals as goal

pub returns-then-is_none : goal.returns-then-is_none
returns-then-is_none c =
    let s = source_of c.args.object in
    let ms = members_of (tree c.args.object) in
    let g = c.gather-held.ensures in
    let d = c.deal-floor.ensures in
    let floor = limit_in s c.loop-floor.floor in
    let es = take c.gather-held.result.count c.gather-held.new.room in
    let fs = c.deal-floor.new.names in
    let no_ceiling = none_there c.gather-held.result.ceiling (c.is_none.ensures ∙ ap not c.if-is_none.true) in
    let h = rw no_ceiling at g.names in
    let r = reached_more g.order {last = last_of floor (names_in s fs)} c.loop-floor.invariant.reached
    (are_next ms fs h d.permutation d.order) d.found refl in
    all_reached g.order r (none_left s ms floor es fs h d.permutation d.order)

pub loop-floor-smaller : goal.loop-floor-smaller
loop-floor-smaller c =
    let s = source_of c.args.object in
    let ms = members_of (tree c.args.object) in
    let g = c.gather-held.ensures in
    let d = c.deal-floor.ensures in
    let floor = limit_in s c.loop-floor.floor in
    let es = take c.gather-held.result.count c.gather-held.new.room in
    let fs = c.deal-floor.new.names in
    let some : 0 < c.gather-held.result.count = g.more (c.is_none.ensures ∙ ap not c.if-is_none.false) in
    let l = length-take-le c.gather-held.result.count c.gather-held.new.room (omega arith) in
    let filled : 0 < length es = omega arith in
    rw d.last (first_held ms es fs g.names d.permutation d.order filled)

pub loop-floor-preserved : goal.loop-floor-preserved
loop-floor-preserved c =
    let s = source_of c.args.object in
    let ms = members_of (tree c.args.object) in
    let g = c.gather-held.ensures in
    let d = c.deal-floor.ensures in
    let floor = limit_in s c.loop-floor.floor in
    let es = take c.gather-held.result.count c.gather-held.new.room in
    let fs = c.deal-floor.new.names in
    let i = c.loop-floor.invariant in
    let some = i.some in
    let fewer = i.fewer in
    let kept = g.kept in
    let room = g.room in
    let whole = room_kept c.gather-held.result.count c.gather-held.new.room fs (omega arith) d.permutation in
    record {
      some = omega arith;
      fewer = omega arith;
      word = d.word;
      reached = reached_more g.order {ts = names_in s fs} i.reached
          (are_next ms fs g.names d.permutation d.order) d.found d.last;
    }
