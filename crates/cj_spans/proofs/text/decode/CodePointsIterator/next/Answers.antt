use Rattle.cj_spans.proofs.Common.{rules, ap, length}
use Rattle.cj_spans.proofs.Texts.{points_step, points_done}
use Rattle.cj_spans.proofs.text.decode.CodePointsIterator.next.Goals as goal

pub returns-in-Some-clause-steps : goal.returns-in-Some-clause-steps
returns-in-Some-clause-steps c = let s = c.args.self.now in
    points_step s.place c.in-Some.first c.in-Some.ensures.char c.code_point_of-point.ensures

pub returns-in-Some-clause-goes : goal.returns-in-Some-clause-goes
returns-in-Some-clause-goes c =
    let s = c.args.self.now in
    let e = points_step s.place c.in-Some.first c.in-Some.ensures.char
    c.code_point_of-point.ensures in search (rules, ap length e, e)

pub returns-in-None-clause-steps : goal.returns-in-None-clause-steps
returns-in-None-clause-steps c = let s = c.args.self.now in
    let e = points_done s.bytes.now s.place c.in-None.ensures.char in (e, e)
