use Rattle.std.proofs.Common.{◌≡◌, nat_eq, take, count_by}
use Rattle.cityseq_c.proofs.memory.count_lfs.Given as goal

abbrev pub invariant-loop-byte : goal.invariant-loop-byte
invariant-loop-byte l = l.count ≡ count_by (λ b. nat_eq b 10) (take l.byte-index l.text)
