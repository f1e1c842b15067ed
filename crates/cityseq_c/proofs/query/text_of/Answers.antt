use Rattle.cityseq_c.proofs.QueryLemmas.{asked-bytes, asked-text}
use Rattle.cityseq_c.proofs.query.text_of.Goals as goal

pub returns-in-Ok : goal.returns-in-Ok
returns-in-Ok c =
    let text = c.in-Ok.ensures.cases in
    rw text.0 (asked-text c.args.asked c.args.text.now c.if-not-asked.false text.1)

pub returns-in-Err : goal.returns-in-Err
returns-in-Err c = asked-bytes c.args.asked c.args.text.now c.if-not-asked.false c.in-Err.ensures.cases.0
