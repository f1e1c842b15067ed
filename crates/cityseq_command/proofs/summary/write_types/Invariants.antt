use Rattle.cityseq_command.proofs.Common.{Ok, Wrote, channel, flat_map, row_at, take, type_text}
use Rattle.cityseq_command.proofs.summary.write_types.Given as goal

abbrev pub invariant-loop-object_type : goal.invariant-loop-object_type
invariant-loop-object_type g l =
    Wrote (flat_map (λ o. type_text l.tally (row_at o)) (take l.object_type-index l.object_type-items)) (Ok tt)
    (channel g.W.Write.contents l.initial.out) (channel g.W.Write.contents l.out)
