use Rattle.cj_feature.proofs.Common.{rules}
use Rattle.cj_feature.proofs.Walking.{first-among, later-among}
use Rattle.cj_feature.proofs.feature.search.near.lists.Lists.fill_lists.Goals as goal

pub loop-name-preserved-then-passed-skip : goal.loop-name-preserved-then-passed-skip
loop-name-preserved-then-passed-skip g c =
    let inv = c.loop-name.invariant in
    record { walk = later-among inv.walk _ _ c.in-Some.ensures.steps; known = inv.known }

pub loop-name-preserved-then-not-is_meant : goal.loop-name-preserved-then-not-is_meant
loop-name-preserved-then-not-is_meant g c =
    let inv = c.loop-name.invariant in
    record { walk = later-among inv.walk _ _ c.in-Some.ensures.steps; known = inv.known }

pub loop-name-preserved : goal.loop-name-preserved
loop-name-preserved g c =
    let inv = c.loop-name.invariant in
    record { walk = later-among inv.walk _ _ c.in-Some.ensures.steps; known = inv.known }

pub loop-name-preserved-then-taken-self : goal.loop-name-preserved-then-taken-self
loop-name-preserved-then-taken-self g c =
    record { walk = later-among c.loop-name.invariant.walk _ _ c.in-Some.ensures.steps; known = c.take.ensures }

pub take-requires : goal.take-requires
take-requires g c =
    let inv = c.loop-name.invariant in
    (search rules, (inv.known, (first-among inv.walk _ _ c.in-Some.ensures.steps, (search rules, search rules))))
