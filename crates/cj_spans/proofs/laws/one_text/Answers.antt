use Rattle.cj_spans.proofs.Common.{sym, subst, chars, text, body_of}
use Rattle.cj_spans.specs.Meaning.StandFor.{StandFor}
use Rattle.cj_spans.proofs.Quoted.{stands_once}
use Rattle.cj_spans.proofs.Strings.{text_of_string}
use Rattle.cj_spans.proofs.laws.one_text.Goals as goal

pub returns-clause-stands : goal.returns-clause-stands
unfolding text
returns-clause-stands c = λ s h u. let r = text_of_string h u in
    subst (StandFor (chars (body_of s))) (sym (stands_once r.1)) r.1
