use Rattle.cityseq_command.proofs.Common.{Ok, Wrote, channel, flat_map, take}
use Rattle.cityseq_command.proofs.fault_lines.write_texts.Given as goal

abbrev pub invariant-loop-text : goal.invariant-loop-text
invariant-loop-text g l =
    Wrote (flat_map (λ text. text.now) (take l.text-index l.texts)) (Ok tt) (channel g.W.Write.contents l.initial.out)
    (channel g.W.Write.contents l.out)
