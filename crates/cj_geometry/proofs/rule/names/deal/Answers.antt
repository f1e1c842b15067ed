use Rattle.cj_geometry.proofs.Common.{All-permutation, IsWorded, source_of}
use Rattle.cj_geometry.proofs.rule.names.deal.Goals as goal

pub check_neighbours-requires-clause-names : goal.check_neighbours-requires-clause-names
check_neighbours-requires-clause-names c =
    All-permutation (IsWorded (source_of c.args.object)) _ _ c.sort.ensures.permutation c.requires.names
