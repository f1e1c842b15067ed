use Rattle.cityseq_c.proofs.Common.{Bool, arith, false, get_or, nat_tests, pow_mono, refl, sym, true, ℕ}
use Rattle.std.specs.Prelude.{nat_lt}
use Rattle.cityseq_c.proofs.QueryLemmas.{bits-none, bits-step}
use Rattle.cityseq_c.proofs.features.record_of.bits_of.Goals.{then-count-gt0, else-count-gt0}
use Rattle.cityseq_c.proofs.features.record_of.bits_of.Goals as goal

pub loop-count-init : goal.loop-count-init
loop-count-init c = (refl, sym (bits-none _), omega arith)

pub overflow_mul-bit : goal.overflow_mul-bit
overflow_mul-bit c =
    omega (arith, c.loop-count.invariant.0, pow_mono {i = c.loop-count.count-index} {j = 62} (omega arith))

pub loop-count-preserved : goal.loop-count-preserved
loop-count-preserved c =
    let i = c.loop-count.invariant in
    let p : ℕ → Bool = λ n. nat_lt 0 (get_or c.args.counts.now n 0) in
    let index = c.loop-count.count-index in
    elim c.if-count-gt0.branch [
      | then-count-gt0 w ↦ bits-step p index c.loop-count.bit c.loop-count.bits c.if-count-gt0.bits true
          (grind (arith, nat_tests, w.if-count-gt0.true)) i.0 i.1 i.2 w.bits-is
      | else-count-gt0 w ↦ bits-step p index c.loop-count.bit c.loop-count.bits c.if-count-gt0.bits false
          (grind (arith, nat_tests, w.if-count-gt0.false)) i.0 i.1 i.2 w.bits-is
    ]
