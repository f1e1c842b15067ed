use Rattle.cityseq_c.proofs.Common.{box_text, criteria, refl}
use Rattle.cityseq_c.proofs.QueryLemmas.{box-declined, box-set}
use Rattle.cityseq_c.proofs.query.set_box.Goals as goal

pub returns-in-Ok-clause-ok : goal.returns-in-Ok-clause-ok
returns-in-Ok-clause-ok c =
    let set = box-set c.bbox.result (criteria c.args.query.now) (criteria c.bbox.new.self) c.in-Ok.field-0
    (box_text c.in-Some.bbox.now) c.bbox.ensures.asks c.in-Ok.is in
    (rw (c.in_ok-bbox.ensures, c.in-Some.is) set.0, set.1)

pub returns-in-Err-clause-declined : goal.returns-in-Err-clause-declined
returns-in-Err-clause-declined c =
    let declined = box-declined c.bbox.result (criteria c.args.query.now) (criteria c.bbox.new.self) c.in-Err.fault
    (box_text c.in-Some.bbox.now) c.bbox.ensures.asks c.in-Err.is in
    rw (c.in_ok-bbox.ensures, c.in-Some.is, declined, c.box_fault.ensures) refl
