use Rattle.cj_stream.proofs.ManyPartsLemmas.{judged-parts, tally-parts}
use Rattle.cj_stream.proofs.PartsLemmas.{kept-parts, output-parts, ending-parts, reported-parts, lines-counted, features-counted, refused-counted, exact-parts}
use Rattle.cj_stream.proofs.laws.parts_are_joined.Goals as goal

pub returns-clause-judged : goal.returns-clause-judged
returns-clause-judged c = λ rules h a b cut done. judged-parts _ h a b cut done

pub returns-clause-kept : goal.returns-clause-kept
returns-clause-kept c = λ rules h a b cut done. kept-parts rules h a cut done b

pub returns-clause-output : goal.returns-clause-output
returns-clause-output c = λ rules h a b cut done. output-parts rules h a cut done b

pub returns-clause-ending : goal.returns-clause-ending
returns-clause-ending c = λ rules h a b cut done. ending-parts rules h a cut done b

pub returns-clause-reported : goal.returns-clause-reported
returns-clause-reported c = λ rules h a b cut done. reported-parts rules h a cut done b

pub returns-clause-lines : goal.returns-clause-lines
returns-clause-lines c = λ rules h a b cut done. lines-counted rules h a cut done b

pub returns-clause-features : goal.returns-clause-features
returns-clause-features c = λ rules h a b cut done. features-counted rules h a cut done b

pub returns-clause-refused : goal.returns-clause-refused
returns-clause-refused c = λ rules h a b cut done. refused-counted rules h a cut done b

pub returns-clause-peaks : goal.returns-clause-peaks
returns-clause-peaks c = λ limits h a b cut. exact-parts _ h a b cut

pub returns-clause-tally : goal.returns-clause-tally
returns-clause-tally c = λ rules h a b first second both cut done x y joins.
    tally-parts rules h a b cut done first second both x y joins
