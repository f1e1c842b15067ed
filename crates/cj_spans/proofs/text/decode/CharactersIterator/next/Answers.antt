use Rattle.cj_spans.proofs.Common.{rules, ap, length}
use Rattle.cj_spans.proofs.Texts.{characters_step}
use Rattle.cj_spans.proofs.text.decode.CharactersIterator.next.Goals as goal

pub returns-in-Some-clause-steps : goal.returns-in-Some-clause-steps
returns-in-Some-clause-steps c = let s = c.args.self.now in
    characters_step s.bytes.now s.place c.in-Some.first c.in-Some.ensures.char

pub returns-in-Some-clause-goes : goal.returns-in-Some-clause-goes
returns-in-Some-clause-goes c = let s = c.args.self.now in
    let e = characters_step s.bytes.now s.place c.in-Some.first c.in-Some.ensures.char in search (rules, ap length e, e)
