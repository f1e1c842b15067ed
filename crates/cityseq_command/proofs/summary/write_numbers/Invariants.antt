use Rattle.cityseq_command.proofs.Common.{Ok, Wrote, channel, flat_map, power_text, take, ◌∷◌}
use Rattle.cityseq_command.proofs.summary.write_numbers.Given as goal

abbrev pub invariant-loop-number : goal.invariant-loop-number
invariant-loop-number g l =
    Wrote (flat_map (λ number. 32 ∷ power_text number) (take l.number-index l.number-items)) (Ok tt)
    (channel g.W.Write.contents l.initial.out) (channel g.W.Write.contents l.out)
