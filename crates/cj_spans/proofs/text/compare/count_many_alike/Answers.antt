use Rattle.cj_spans.proofs.Common.{arith, ◌-◌, refl}
use Rattle.cj_spans.proofs.Quoted.{alike_more}
use Rattle.cj_spans.proofs.text.compare.count_many_alike.Goals as goal

pub returns-in-Some : goal.returns-in-Some
returns-in-Some c =
    let t = c.loop-count-test.true in
    let f = c.in-Some.ensures.found.0 in
    let m = c.min-room.ensures in
    alike_more c.loop-count.count
    c.in-Some.more c.loop-count.invariant (omega arith) refl (omega arith) (omega arith) c.in-Some.ensures.found.1

pub loop-count-preserved : goal.loop-count-preserved
loop-count-preserved c =
    let t = c.loop-count-test.true in
    let m = c.min-room.ensures in
    alike_more c.loop-count.count
    16 c.loop-count.invariant (omega arith) refl (omega arith) (omega arith) c.in-None.ensures.none

pub returns-in-Some-find_unlike : goal.returns-in-Some-find_unlike
returns-in-Some-find_unlike c =
    let f = c.in-Some-find_unlike.ensures.found.0 in
    let m = c.min-room.ensures in
    alike_more (c.min-room.result - 16) c.in-Some-find_unlike.more c.loop-count.invariant
    (omega (arith, c.loop-count-test.false)) refl (omega arith) (omega arith) c.in-Some-find_unlike.ensures.found.1

pub returns-in-None-find_unlike : goal.returns-in-None-find_unlike
returns-in-None-find_unlike c =
    let m = c.min-room.ensures in
    alike_more (c.min-room.result - 16) 16 c.loop-count.invariant (omega (arith, c.loop-count-test.false)) (omega arith)
    (omega arith) (omega arith) c.in-None-find_unlike.ensures.none
