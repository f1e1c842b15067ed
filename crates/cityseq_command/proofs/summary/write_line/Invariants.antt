use Rattle.cityseq_command.proofs.Common.{Ok, Wrote, channel, flat_map, take, ◌∷◌}
use Rattle.cityseq_command.proofs.summary.write_line.Given as goal

abbrev pub invariant-loop-word : goal.invariant-loop-word
invariant-loop-word g l =
    Wrote (flat_map (λ word. 32 ∷ word.now) (take l.word-index l.words)) (Ok tt)
    (channel g.W.Write.contents l.initial.out) (channel g.W.Write.contents l.out)
