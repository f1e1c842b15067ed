use Rattle.cj_stream.proofs.Common.{List, Option, ap, drop, inr, map, number_on, refl, subst, sym, vertices_left, ℤ, ◌∙◌, ◌∷◌, ◌≡◌}
use Rattle.cj_stream.specs.TallySink.{TakesSome}
use Rattle.cj_stream.proofs.Ranges.{words-kept, words-tried}
use Rattle.cj_stream.proofs.tally.adding.widen_next.Goals.{else-widen_on-via-then-widen_on+then-widen_on-2+else-widen_on-3, else-widen_on-via-then-widen_on+else-widen_on-2, else-widen_on-via-else-widen_on}
use Rattle.cj_stream.proofs.tally.adding.widen_next.Goals as goal

-- each number is of the same vertex
same-first : {v w : List (Option ℤ)} {vs ws : List (List (Option ℤ))} → v ∷ vs ≡ w ∷ ws → v ≡ w
same-first e = cc

pub returns-then-widen_on-3-clause-gone : goal.returns-then-widen_on-3-clause-gone
returns-then-widen_on-3-clause-gone c holds =
    let x = c.widen_on.ensures.taken c.if-widen_on.true in
    let y = c.widen_on-then-widen_on.ensures.taken c.if-widen_on-2.true in
    let z = c.widen_on-then-widen_on-2.ensures.taken c.if-widen_on-3.true in (
      x.0,
      x.2 ∙ ap (λ vs. x.0 ∷ vs) (sym (c.go_past.ensures ∙ ap (drop 1) x.2)),
      x.3,
      rw (same-first (sym y.2 ∙ x.2)) at y.3,
      rw (same-first (sym z.2 ∙ x.2)) at z.3,
    )

pub returns-clause-stays : goal.returns-clause-stays
returns-clause-stays c =
    let whole = vertices_left c.args.vertices.now in
    let x = words-tried _ 0 _ _ _ c.widen_on.ensures.taken c.widen_on.ensures.kept in
    inr (
      refl,
      x,
      (elim c.else-widen_on.branch [
        | else-widen_on-via-then-widen_on+then-widen_on-2+else-widen_on-3 w ↦
            subst (TakesSome c.args.on_y.now (map (number_on 1) whole)) (sym w.on_y-is)
            (words-tried _ 1 _ _ whole w.widen_on-then-widen_on.ensures.taken w.widen_on-then-widen_on.ensures.kept)
        | else-widen_on-via-then-widen_on+else-widen_on-2 w ↦
            subst (TakesSome c.args.on_y.now (map (number_on 1) whole)) (sym w.on_y-is)
            (words-tried _ 1 _ _ whole w.widen_on-then-widen_on.ensures.taken w.widen_on-then-widen_on.ensures.kept)
        | else-widen_on-via-else-widen_on w ↦ words-kept _ _ _ w.on_y-is
      ]),
      (elim c.else-widen_on.branch [
        | else-widen_on-via-then-widen_on+then-widen_on-2+else-widen_on-3 w ↦
            subst (TakesSome c.args.on_z.now (map (number_on 2) whole)) (sym w.on_z-is)
            (words-tried _ 2 _ _ whole w.widen_on-then-widen_on-2.ensures.taken w.widen_on-then-widen_on-2.ensures.kept)
        | else-widen_on-via-then-widen_on+else-widen_on-2 w ↦ words-kept _ _ _ w.on_z-is
        | else-widen_on-via-else-widen_on w ↦ words-kept _ _ _ w.on_z-is
      ]),
    )
