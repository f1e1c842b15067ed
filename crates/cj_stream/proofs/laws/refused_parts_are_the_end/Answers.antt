use Rattle.cj_stream.proofs.Common.{[], ap, flat_map, kept_from, raw_item, reported_from}
use Rattle.cj_stream.proofs.PartsLemmas.{refused-stays}
use Rattle.cj_stream.proofs.laws.refused_parts_are_the_end.Goals as goal

pub returns-clause-ending : goal.returns-clause-ending
returns-clause-ending c = λ rules h a b cut refused. (refused-stays rules h a cut b refused).0

pub returns-clause-good : goal.returns-clause-good
returns-clause-good c = λ rules h a b cut refused. (refused-stays rules h a cut b refused).1

pub returns-clause-kept : goal.returns-clause-kept
returns-clause-kept c =
    λ rules h a b cut refused. ap (λ z. kept_from rules [] z) (refused-stays rules h a cut b refused).1

pub returns-clause-output : goal.returns-clause-output
returns-clause-output c =
    λ rules h a b cut refused. ap (λ z. flat_map raw_item (kept_from rules [] z))
    (refused-stays rules h a cut b refused).1

pub returns-clause-reported : goal.returns-clause-reported
returns-clause-reported c =
    λ rules h a b cut refused. ap (λ z. reported_from rules [] z) (refused-stays rules h a cut b refused).1
