use Rattle.cj_spans.proofs.Common.{suc, Ok, Err, arith, sym, subst, state, phase_after, EndAnswers}
use Rattle.cj_spans.proofs.scanner.follow.Goals as goal

pub returns-in-Ok-clause-answer : goal.returns-in-Ok-clause-answer
returns-in-Ok-clause-answer c = λ ks p.
    let ts = c.args.tokens.now.elements in
    let e = c.in-Ok.ensures.answer ks p in
    let n = c.pass_colon in
    let order = n.ensures.order in
    let reached = e.1 in
    subst (λ v. EndAnswers c.args.line.now (state (phase_after c.args.mode c.args.place v) ks ts (suc c.args.place) p)
    (Ok n.result) c.end_atom.new.tokens.elements) (sym c.in-Atom.is)
    (n.ensures.answer _ ks _ p e.0, omega arith, n.ensures.end e.2)

pub returns-in-Err-clause-answer : goal.returns-in-Err-clause-answer
returns-in-Err-clause-answer c = λ ks p.
    let ts = c.args.tokens.now.elements in
    subst (λ v. EndAnswers c.args.line.now (state (phase_after c.args.mode c.args.place v) ks ts (suc c.args.place) p)
    (Err c.in-Err.fault) c.end_atom.new.tokens.elements) (sym c.in-Atom.is) (c.in-Err.ensures.answer ks p)
