use Rattle.cityseq_c.proofs.Common.{IsAlong, subst, sym}
use Rattle.cityseq_c.proofs.CursorLemmas.{along-new, behind}
use Rattle.cityseq_c.proofs.finder.Finder.new.Goals as goal

pub invariant_of-result-clause-behind : goal.invariant_of-result-clause-behind
invariant_of-result-clause-behind c = behind c.args.header.now c.args.part.now c.requires

pub invariant_of-result-clause-along : goal.invariant_of-result-clause-along
invariant_of-result-clause-along c =
    subst (λ p. IsAlong c.args.part.now p) (sym c.new.ensures.place) (along-new c.args.part.now)
