use Rattle.cj_feature.proofs.Common.{refl, rules, ◌∙◌}
use Rattle.cj_feature.proofs.NearLemmas.{guide-at, same-hand}
use Rattle.cj_feature.proofs.feature.search.near.Near.mark_behind.Goals as goal

pub look_behind-gone-requires : goal.look_behind-gone-requires
look_behind-gone-requires g c = (
  search rules,
  guide-at c.of.ensures.line (c.of.ensures.tokens ∙ c.as_slice.ensures.value) same-hand refl refl
      c.loop.invariant.guide,
)
