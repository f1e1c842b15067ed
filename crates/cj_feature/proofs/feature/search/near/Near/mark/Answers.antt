use Rattle.cj_feature.proofs.Common.{refl, rules, ◌∙◌}
use Rattle.cj_feature.proofs.NearLemmas.{guide-at, guide-marked, same-hand}
use Rattle.cj_feature.proofs.feature.search.near.Near.mark.Goals as goal

pub look_behind-requires : goal.look_behind-requires
look_behind-requires g c = (
  search rules,
  guide-at c.of-2.ensures.line (c.of-2.ensures.tokens ∙ c.as_slice-2.ensures.value) same-hand refl refl
      (guide-marked c.args.number c.requires.guide c.set_mark.ensures.kept c.set_mark.ensures.others
      c.requires.reached),
)
