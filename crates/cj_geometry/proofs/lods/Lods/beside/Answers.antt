use Rattle.cj_geometry.proofs.Values.{kept-none}
use Rattle.cj_geometry.proofs.lods.Lods.beside.Goals as goal

pub invariant_of-result-clause-placed : goal.invariant_of-result-clause-placed
invariant_of-result-clause-placed c = λ slot n is. cc (kept-none 64 slot)
