use Rattle.cj_stream.proofs.Common.{Bool, IsTrue, List, Option, TakesNumber, ap, inl, inr, map, number_on, subst, vertices_left, ℕ, ℤ, ◌∷◌, ◌≡◌, ◌⊎◌}
use Rattle.cj_stream.specs.TallySink.{TakesSome}
use Rattle.cj_stream.proofs.Ranges.{OnWay, axis-next, way-joined, way-shorter, way-step, on_axes}
use Rattle.cj_stream.proofs.tally.adding.widen_front.Goals as goal

-- what a step makes of the words on an axis, and of the way
gone-on : (b : Bool) (axis : ℕ) (whole left : List (List (Option ℤ))) (old new : ℕ × ℕ)
    → (IsTrue b → (v : List (Option ℤ)) × (whole ≡ v ∷ left) × TakesNumber old (number_on axis v) new) → IsTrue b
    → (n : ℤ) × (map (number_on axis) whole ≡ n ∷ map (number_on axis) left) × TakesNumber old n new
gone-on b axis whole left old new gone holds =
    let g = gone holds in (number_on axis g.0, axis-next _ _ _ _ g.1, g.2)

pub loop-going-preserved : goal.loop-going-preserved
loop-going-preserved c =
    let s = c.loop-going.invariant in
    let on = c.loop-going-test.true in
    let gone = c.widen_next-going.ensures.gone in
    let all = λ (axis : ℕ). map (number_on axis) (vertices_left c.args.vertices) in
    let whole = vertices_left c.loop-going.left in
    let left = vertices_left c.widen_next-going.new.vertices in
    let stays : IsTrue c.widen_next-going.result ⊎ ((left ≡ whole)
    × TakesSome c.loop-going.on_x (map (number_on 0) whole) c.widen_next-going.new.on_x
    × TakesSome c.loop-going.on_y (map (number_on 1) whole) c.widen_next-going.new.on_y
    × TakesSome c.loop-going.on_z (map (number_on 2) whole) c.widen_next-going.new.on_z) =
    elim c.widen_next-going.ensures.stays [
      | inl holds ↦ inl holds
      | inr k ↦ inr (ap vertices_left k.0, k.1, k.2, k.3)
    ] in
    record {
      on_x = way-step _ _ _ _ _ _
          (gone-on _ 0 whole left _ _ (λ holds. let g = gone holds in (g.0, g.1, g.2)))
          (elim stays [ inl holds ↦ inl holds | inr k ↦ inr (ap (map (number_on 0)) k.0, k.1) ])
          (subst (λ b. OnWay b (all 0) c.loop-going.on_x (map (number_on 0) whole)) on s.on_x);
      on_y = way-step _ _ _ _ _ _
          (gone-on _ 1 whole left _ _ (λ holds. let g = gone holds in (g.0, g.1, g.3)))
          (elim stays [ inl holds ↦ inl holds | inr k ↦ inr (ap (map (number_on 1)) k.0, k.2) ])
          (subst (λ b. OnWay b (all 1) c.loop-going.on_y (map (number_on 1) whole)) on s.on_y);
      on_z = way-step _ _ _ _ _ _
          (gone-on _ 2 whole left _ _ (λ holds. let g = gone holds in (g.0, g.1, g.4)))
          (elim stays [ inl holds ↦ inl holds | inr k ↦ inr (ap (map (number_on 2)) k.0, k.3) ])
          (subst (λ b. OnWay b (all 2) c.loop-going.on_z (map (number_on 2) whole)) on s.on_z);
    }

pub loop-going-smaller : goal.loop-going-smaller
loop-going-smaller c =
    way-shorter _ _ _
    _ c.loop-going-test.true
    (λ holds. let g = c.widen_next-going.ensures.gone holds in (g.0, g.1))
    (elim c.widen_next-going.ensures.stays [
      | inl holds ↦ inl holds
      | inr k ↦ inr (ap vertices_left k.0)
    ])

pub returns : goal.returns
returns c =
    let s = c.loop-going.invariant in
    let off = c.loop-going-test.false in
    let all = λ (axis : ℕ). map (number_on axis) (vertices_left c.args.vertices) in
    let left = λ (axis : ℕ). map (number_on axis) (vertices_left c.loop-going.left) in
    on_axes _
    (way-joined _ _ _ _ _ (subst (λ b. OnWay b (all 0) c.loop-going.on_x (left 0)) off s.on_x) c.join_to.ensures.on_x)
    (way-joined _ _ _ _ _ (subst (λ b. OnWay b (all 1) c.loop-going.on_y (left 1)) off s.on_y) c.join_to.ensures.on_y)
    (way-joined _ _ _ _ _ (subst (λ b. OnWay b (all 2) c.loop-going.on_z (left 2)) off s.on_z) c.join_to.ensures.on_z)
