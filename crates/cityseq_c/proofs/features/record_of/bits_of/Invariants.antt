use Rattle.cityseq_c.proofs.Common.{bits, get_or, ◌<◌, ◌^◌, ◌≡◌}
use Rattle.std.specs.Prelude.{nat_lt}
use Rattle.cityseq_c.proofs.features.record_of.bits_of.Given as goal

abbrev pub invariant-loop-count : goal.invariant-loop-count
invariant-loop-count l =
    (l.bit ≡ 2 ^ l.count-index) × (l.bits ≡ bits (λ n. nat_lt 0 (get_or l.counts n 0)) l.count-index)
    × (l.bits < 2 ^ l.count-index)
