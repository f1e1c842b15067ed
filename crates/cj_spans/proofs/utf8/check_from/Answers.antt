use Rattle.cj_spans.proofs.Common.{take_rest}
use Rattle.simdutf8.proofs.Parts.{front_and_rest, valid_after}
use Rattle.cj_spans.proofs.utf8.check_from.Goals as goal

pub returns-in-Ok-clause-ok : goal.returns-in-Ok-clause-ok
returns-in-Ok-clause-ok c =
    front_and_rest _ _ c.requires.within c.requires.utf8
    (rw take_rest at c.in-Ok.ensures.cases.1)

pub returns-in-Err-clause-err : goal.returns-in-Err-clause-err
returns-in-Err-clause-err c =
    valid_after _ _ _ c.requires.within c.requires.utf8
    (rw (c.valid_up_to.ensures) (rw take_rest at c.in-Err.ensures.cases.1))
