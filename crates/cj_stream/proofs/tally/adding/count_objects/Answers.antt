use Rattle.cj_stream.proofs.TallySinkLemmas.{RisesBy-own}
use Rattle.cj_stream.proofs.tally.adding.count_objects.Goals as goal

pub returns-then-has_own_lods-clause-lods : goal.returns-then-has_own_lods-clause-lods
returns-then-has_own_lods-clause-lods c =
    RisesBy-own _ _ _ _ (c.has_own_lods.ensures c.if-has_own_lods.true)
    c.count_plain.ensures.lods
