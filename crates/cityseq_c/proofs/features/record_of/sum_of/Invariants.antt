use Rattle.cityseq_c.proofs.Common.{capped, sum, take, ◌≡◌}
use Rattle.cityseq_c.proofs.features.record_of.sum_of.Given as goal

abbrev pub invariant-loop-count : goal.invariant-loop-count
invariant-loop-count l = l.total ≡ capped (sum (take l.count-index l.counts))
