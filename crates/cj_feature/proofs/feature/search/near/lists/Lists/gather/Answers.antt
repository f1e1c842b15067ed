use Rattle.cj_feature.proofs.Common.{rules}
use Rattle.cj_feature.proofs.NearLemmas.{known-kept, more-hand}
use Rattle.cj_feature.proofs.feature.search.near.lists.Lists.gather.Goals as goal

pub fill_lists-requires : goal.fill_lists-requires
fill_lists-requires g c = search (rules, known-kept, more-hand)

pub returns : goal.returns
returns g c = search (rules, known-kept)
