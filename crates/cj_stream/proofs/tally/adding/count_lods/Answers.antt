use Rattle.cj_stream.proofs.TallySinkLemmas.{RisesBy-own}
use Rattle.cj_stream.proofs.tally.adding.count_lods.Goals as goal

pub returns-then-has_own_lods : goal.returns-then-has_own_lods
returns-then-has_own_lods c =
    RisesBy-own _ _ _ _ (c.has_own_lods.ensures c.if-has_own_lods.true)
    c.count_alone.ensures
