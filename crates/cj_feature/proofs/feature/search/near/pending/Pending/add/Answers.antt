use Rattle.cj_feature.proofs.Common.{IsReachedObject, length, tree_at, ℕ, ◌<◌}
use Rattle.cj_feature.proofs.NearLemmas.{each-added}
use Rattle.cj_feature.proofs.feature.search.near.pending.Pending.add.Goals as goal

pub returns : goal.returns
returns g c = λ f line spans within reached all.
    let P : ℕ → Type 0 = λ n. (n < length spans) × IsReachedObject f (tree_at line spans n) in
    each-added P c.args.self.now.numbers c.args.self.now.count c.args.number all (within, reached)
