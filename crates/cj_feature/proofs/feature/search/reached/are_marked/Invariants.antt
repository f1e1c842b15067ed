use Rattle.cj_feature.proofs.Common.{IsMarkedBy}
use Rattle.cj_feature.proofs.Walking.{Left}
use Rattle.cj_feature.proofs.feature.search.reached.are_marked.Given as goal

abbrev pub invariant-loop-object : goal.invariant-loop-object
invariant-loop-object l = Left (λ m. IsMarkedBy l.objects m.1) l.objects l.object-iterator
