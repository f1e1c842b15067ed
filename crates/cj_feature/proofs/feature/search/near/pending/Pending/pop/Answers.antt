use Rattle.std.proofs.Common.{◌-◌, arith}
use Rattle.cj_feature.proofs.feature.search.near.pending.Pending.pop.Goals as goal

pub returns-clause-pending : goal.returns-clause-pending
returns-clause-pending g c = λ f line spans all k n l h. all k n (omega arith) h

pub returns-clause-number : goal.returns-clause-number
returns-clause-number g c =
    λ f line spans all. all (c.args.self.now.count - 1) c.number_at-number.result
    (omega arith) c.number_at-number.ensures
