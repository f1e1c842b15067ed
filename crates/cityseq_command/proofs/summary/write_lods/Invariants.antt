use Rattle.cityseq_command.proofs.Common.{Ok, Wrote, [], channel, class_text, flat_map, take, ◌∷◌}
use Rattle.cityseq_command.proofs.summary.write_lods.Given as goal

abbrev pub invariant-loop-class : goal.invariant-loop-class
invariant-loop-class g l =
    Wrote (flat_map (class_text l.tally) (take l.class (0 ∷ 1 ∷ 2 ∷ 3 ∷ 4 ∷ 5 ∷ []))) (Ok tt)
    (channel g.W.Write.contents l.initial.out) (channel g.W.Write.contents l.out)
