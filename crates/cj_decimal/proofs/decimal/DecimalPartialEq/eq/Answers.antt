use Rattle.cj_decimal.proofs.Common.{scaled}
use Rattle.cj_decimal.proofs.Values.{same_by_power, apart_by_coefficient, turned}
use Rattle.cj_decimal.proofs.decimal.DecimalPartialEq.eq.Goals as goal

pub returns-then-other-self-clause-same_value : goal.returns-then-other-self-clause-same_value
returns-then-other-self-clause-same_value c =
    let mine = c.self.inside in
    let theirs = c.other.inside in
    rw (← c.self.view_is, ← c.other.view_is)
    (turned _ (scaled mine.coefficient mine.power) (scaled theirs.coefficient theirs.power)
    (same_by_power c.other.invariant c.self.invariant c.if-other-self.true))

pub returns-else-other-self-clause-same_value : goal.returns-else-other-self-clause-same_value
returns-else-other-self-clause-same_value c =
    let mine = c.self.inside in
    let theirs = c.other.inside in
    rw (← c.self.view_is, ← c.other.view_is)
    (turned _ (scaled mine.coefficient mine.power) (scaled theirs.coefficient theirs.power) (apart_by_coefficient
    c.other.invariant c.self.invariant c.if-other-self.false))
