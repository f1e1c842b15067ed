use Rattle.cj_stream.proofs.Common.{List, None, Option, Some, Widens, [], ap, arith, get_or, map, number_on, rules, subst, sym, vertices_left, ℤ, ◌∷◌, ◌≡◌}
use Rattle.cj_stream.proofs.Ranges.{Widens-no, Widens-two, numbers-first, on_axes}
use Rattle.cj_stream.proofs.tally.adding.widen_rest.Goals as goal

-- by the first number, and then by the others
first-widened : (range : Option (ℤ × ℤ)) (all rest : List ℤ) (n : ℤ) (mid end : ℤ × ℤ) → all ≡ n ∷ rest
    → Widens range (n ∷ []) (Some mid) → Widens (Some mid) rest (Some end) → Widens range all (Some end)
first-widened range all rest n mid end e first later =
    subst (λ (ns : List ℤ). Widens range ns (Some end)) (sym e)
    (Widens-two (n ∷ []) rest range (Some mid) (Some end) first later)

pub returns-in-Some : goal.returns-in-Some
returns-in-Some c =
    let v = c.in-Some.vertex in
    let left = vertices_left c.next.new.self in
    on_axes _
    (first-widened _ _ _ _ _ _ (numbers-first 0 _ _ _ v (search rules) c.in-Some.ensures.steps)
    c.begun.ensures (c.widen_by.ensures 0 (omega arith)))
    (first-widened _ _ _ _ _ _
    (numbers-first 1 _ _ _ v (search rules) c.in-Some.ensures.steps) c.begun-in-Some.ensures
    (c.widen_by.ensures 1 (omega arith)))
    (first-widened _ _ _ _ _ _
    (numbers-first 2 _ _ _ v (search rules) c.in-Some.ensures.steps) c.begun-in-Some-2.ensures
    (c.widen_by.ensures 2 (omega arith)))

pub returns-in-None : goal.returns-in-None
returns-in-None c axis low =
    let range = get_or c.args.ranges.now axis None in
    subst (λ ns. Widens range ns range) (sym (ap (map (number_on axis)) c.in-None.ensures.steps.0)) (Widens-no _)
