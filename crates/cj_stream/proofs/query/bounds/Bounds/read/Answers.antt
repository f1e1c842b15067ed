use Rattle.std.proofs.Common.{◌∙◌, refl, sym}
use Rattle.cj_stream.proofs.BoxTextLemmas.{by_edges, read-edges}
use Rattle.cj_stream.proofs.query.bounds.Bounds.read.Goals.{in_default-2-via-in-Some+in-Some+in-Some+in_default, in_default-2-via-in-Some+in-Some+in_default, in_default-2-via-in-Some+in_default, in_default-2-via-in_default, then-is_below-via-then-is_below, then-is_below-via-else-is_below+then-is_below-2}
use Rattle.cj_stream.proofs.query.bounds.Bounds.read.Goals as goal

pub returns-in_default-2 : goal.returns-in_default-2
returns-in_default-2 c =
    let said = read-edges c.args.text.now _ _ _ _ c.in-Some.ensures _ _ _ _ c.in_ok-min_x.ensures c.in_ok-min_y.ensures
    c.in_ok-max_x.ensures c.in_ok-max_y.ensures in
    elim c.in_default-2.branch [
      | in_default-2-via-in-Some+in-Some+in-Some+in_default w ↦ said
          ∙ rw (w.in_default-2.is-0, w.in_default-2.is-1, w.in_default-2.is-2, w.in_default-2.is-3) refl
      | in_default-2-via-in-Some+in-Some+in_default w ↦ said
          ∙ rw (w.in_default-2.is-0, w.in_default-2.is-1, w.in_default-2.is-2) refl
      | in_default-2-via-in-Some+in_default w ↦ said ∙ rw (w.in_default-2.is-0, w.in_default-2.is-1) refl
      | in_default-2-via-in_default w ↦ said ∙ rw w.in_default-2.is-0 refl
    ]

pub returns-then-is_below : goal.returns-then-is_below
returns-then-is_below c =
    let edges = c.in-Some-Some-Some-Some in
    let read = read-edges c.args.text.now _ _ _ _ c.in-Some.ensures _ _ _ _ c.in_ok-min_x.ensures c.in_ok-min_y.ensures
    c.in_ok-max_x.ensures c.in_ok-max_y.ensures ∙ (λ i. by_edges (edges.is-0 i) (edges.is-1 i) (edges.is-2 i)
    (edges.is-3 i)) in
    elim c.then-is_below.branch [
      | then-is_below-via-then-is_below w ↦
          read ∙ rw (sym c.is_below.ensures ∙ w.if-is_below.true)
      | then-is_below-via-else-is_below+then-is_below-2 w ↦
          read ∙ rw (
            sym c.is_below.ensures ∙ w.if-is_below.false,
            sym w.is_below-else-is_below.ensures
                ∙ w.if-is_below-2.true,
          )
    ]

pub returns : goal.returns
returns c =
    let edges = c.in-Some-Some-Some-Some in
    let read = read-edges c.args.text.now _ _ _ _ c.in-Some.ensures _ _ _ _ c.in_ok-min_x.ensures c.in_ok-min_y.ensures
    c.in_ok-max_x.ensures c.in_ok-max_y.ensures ∙ (λ i. by_edges (edges.is-0 i) (edges.is-1 i) (edges.is-2 i)
    (edges.is-3 i)) in
    read ∙ rw (
      sym c.is_below.ensures ∙ c.if-is_below.false,
      sym c.is_below-else-is_below.ensures
          ∙ c.if-is_below-2.false,
    )
