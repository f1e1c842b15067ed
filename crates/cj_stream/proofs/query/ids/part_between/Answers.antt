use Rattle.cj_stream.proofs.Common.{arith, nat_tests}
use Rattle.cj_stream.proofs.IdLemmas.{part_has}
use Rattle.cj_stream.proofs.query.ids.part_between.Goals.{then-start-gt0, else-start-gt0, else-end-run-via-then-end-run+else-run-end, else-end-run-via-else-end-run}
use Rattle.cj_stream.proofs.query.ids.part_between.Goals as goal

pub returns : goal.returns
returns c =
    part_has _ _ _ _ _
    c.requires (omega arith) (omega arith)
    (λ h. elim c.if-start-gt0.branch [
      | then-start-gt0 w ↦
          grind (arith, nat_tests)
      | else-start-gt0 w ↦ absurd (omega arith)
    ])
    (λ h. elim c.else-end-run.branch [
      | else-end-run-via-then-end-run+else-run-end w ↦
          w.if-run-end.false
      | else-end-run-via-else-end-run w ↦ absurd (omega arith)
    ])
