use Rattle.std.proofs.Common.{arith, take}
use Rattle.cityseq_c.proofs.CursorLemmas.{end-first, end-last, end-none, front-wanted}
use Rattle.cityseq_c.proofs.cutting.part_end.Goals as goal

pub returns-in-Some-clause-end : goal.returns-in-Some-clause-end
returns-in-Some-clause-end c =
    (end-last c.args.part.now c.args.wanted c.in-Some.place (take c.min.result c.args.part.now)
    (front-wanted c.args.part.now c.args.wanted c.min.result c.min.ensures) c.in-Some.ensures).0

pub returns-in-Some-clause-whole : goal.returns-in-Some-clause-whole
returns-in-Some-clause-whole c =
    (end-last c.args.part.now c.args.wanted c.in-Some.place (take c.min.result c.args.part.now)
    (front-wanted c.args.part.now c.args.wanted c.min.result c.min.ensures) c.in-Some.ensures).1

pub returns-in-Some-memchr-clause-end : goal.returns-in-Some-memchr-clause-end
returns-in-Some-memchr-clause-end c =
    (end-first c.args.part.now c.args.wanted (take c.min.result c.args.part.now)
    (front-wanted c.args.part.now c.args.wanted c.min.result c.min.ensures) c.in_default.ensures
    c.in-Some-memchr.place c.in-Some-memchr.ensures).0

pub returns-in-Some-memchr-clause-whole : goal.returns-in-Some-memchr-clause-whole
returns-in-Some-memchr-clause-whole c =
    (end-first c.args.part.now c.args.wanted (take c.min.result c.args.part.now)
    (front-wanted c.args.part.now c.args.wanted c.min.result c.min.ensures) c.in_default.ensures
    c.in-Some-memchr.place c.in-Some-memchr.ensures).1

pub returns-in-None-clause-end : goal.returns-in-None-clause-end
returns-in-None-clause-end c =
    grind (arith, end-none, front-wanted)
