use Rattle.cj_spans.proofs.Common.{sym}
use Rattle.cj_spans.proofs.Atoms.{reads_as, reads_null, reads_true, reads_false}
use Rattle.cj_spans.proofs.atom.read_word.Goals as goal

pub returns-then-has_letters : goal.returns-then-has_letters
returns-then-has_letters c =
    let h = c.has_letters.ensures in let t = c.if-has_letters.true in
    reads_as (sym c.in-AfterN.is) (reads_null c.args.line.now c.args.place (h.within t) (h.letters t))

pub returns-then-has_letters-2 : goal.returns-then-has_letters-2
returns-then-has_letters-2 c =
    let h = c.has_letters-in-AfterT.ensures in let t = c.if-has_letters-2.true in
    reads_as (sym c.in-AfterT.is) (reads_true c.args.line.now c.args.place (h.within t) (h.letters t))

pub returns-then-stands_at : goal.returns-then-stands_at
returns-then-stands_at c =
    let h = c.has_letters-in-AfterF.ensures in let t = c.if-has_letters-3.true in
    reads_as (sym c.in-AfterF.is)
    (reads_false c.args.line.now c.args.place (h.within t) (h.letters t) (c.stands_at.ensures c.if-stands_at.true))
