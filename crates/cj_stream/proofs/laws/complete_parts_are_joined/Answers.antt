use Rattle.cj_stream.proofs.ManyPartsLemmas.{complete-parts, kept-all_parts, output-all_parts}
use Rattle.cj_stream.proofs.laws.complete_parts_are_joined.Goals as goal

pub returns-clause-complete : goal.returns-clause-complete
returns-clause-complete c = λ rules h parts alone done all. complete-parts rules h alone done parts all

pub returns-clause-kept : goal.returns-clause-kept
returns-clause-kept c = λ rules h parts alone done all. kept-all_parts rules h alone done parts all

pub returns-clause-output : goal.returns-clause-output
returns-clause-output c = λ rules h parts alone done all. output-all_parts rules h alone done parts all
