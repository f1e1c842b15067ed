use Rattle.cj_geometry.proofs.Arrays.{triple-none}
use Rattle.cj_geometry.proofs.rule.number.is_short_triple.Goals as goal

pub returns : goal.returns
returns c so reason =
    let w = c.is_short_triple.ensures in
    triple-none _ _ reason (w.array so) (w.three so) (w.wholes so)
