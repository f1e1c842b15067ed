use Rattle.cityseq_c.proofs.Common.{drop, reason_in, reason_with, ◌≡◌}
use Rattle.cityseq_c.proofs.words.reason_of.Given as goal

abbrev pub invariant-loop-reason : goal.invariant-loop-reason
invariant-loop-reason l = reason_in l.code (drop l.reason-index l.reason-items) ≡ reason_with l.code
