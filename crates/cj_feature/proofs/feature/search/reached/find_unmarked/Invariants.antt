use Rattle.cj_feature.proofs.Common.{IsMarkedBy, same_text, tree, true, ◌≡◌}
use Rattle.cj_feature.proofs.Walking.{Left}
use Rattle.cj_feature.proofs.feature.search.reached.find_unmarked.Given as goal

abbrev pub invariant-loop-name : goal.invariant-loop-name
invariant-loop-name l =
    Left (λ m. same_text m.0 (tree l.id) ≡ true → IsMarkedBy l.objects m.1) l.objects l.name-iterator
