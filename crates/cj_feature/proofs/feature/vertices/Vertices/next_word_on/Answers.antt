use Rattle.cj_feature.proofs.Common.{IfSome, IsWordOf, List, None, Option, Some, ap, map, number_on, pos, vertex_of, ℕ, ℤ, ◌∷◌, ◌≡◌}
use Rattle.cj_feature.specs.Walks.{vertices_left}
use Rattle.cj_feature.proofs.feature.vertices.Vertices.next_word_on.Goals as goal

-- the word of the first of some vertices
of-first : (axis : ℕ) (o : Option ℕ) (whole vs : List (List (Option ℤ))) (v : List (Option ℤ)) → whole ≡ v ∷ vs
    → IfSome o (λ w. (n : ℕ) × IsWordOf w n × (number_on axis v ≡ pos n))
    → IfSome o (λ w. (u : List (Option ℤ)) × (us : List (List (Option ℤ))) × (whole ≡ u ∷ us) × (n : ℕ) × IsWordOf w n
    × (number_on axis u ≡ pos n))
of-first axis None whole vs v e read = read
of-first axis (Some w) whole vs v e read = (v, vs, e, read.0, read.1, read.2)

pub returns-in-Some : goal.returns-in-Some
unfolding vertices_left
returns-in-Some c =
    of-first c.args.axis c.read_word_on.result _ _ _ (ap (map vertex_of) c.in-Some.ensures.steps.0)
    c.read_word_on.ensures
