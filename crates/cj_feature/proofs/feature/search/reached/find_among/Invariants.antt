use Rattle.cj_feature.proofs.Common.{IsMarkedBy, SoughtHaveMarks, chars, codes, listed_in}
use Rattle.cj_feature.proofs.Walking.{Left}
use Rattle.cj_feature.proofs.feature.search.reached.find_among.Given as goal

abbrev pub invariant-loop-object : goal.invariant-loop-object
invariant-loop-object l =
    Left (λ m. IsMarkedBy l.objects m.1
    → SoughtHaveMarks l.objects l.names (listed_in (chars (codes "children")) m.1)) l.objects l.object-iterator
