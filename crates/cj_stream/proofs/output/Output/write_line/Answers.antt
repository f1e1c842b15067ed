use Rattle.cj_stream.proofs.OutputLemmas.{AppendsPart-after, on_err_any}
use Rattle.cj_stream.proofs.output.Output.write_line.Goals as goal

pub returns-in_err-write_whole-2-clause-fault : goal.returns-in_err-write_whole-2-clause-fault
returns-in_err-write_whole-2-clause-fault g c =
    rw c.if-lf.true (on_err_any _
    (AppendsPart-after _ _ _ _ _ c.in_ok-write_whole.ensures.ok
    c.in_err-write_whole-2.ensures.fault))
