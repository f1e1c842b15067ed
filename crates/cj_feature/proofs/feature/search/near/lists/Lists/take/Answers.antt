use Rattle.cj_feature.proofs.Common.{Contains, ap, arith, inl, inr, length, line_of, members_of, source_of, spans_by, tokens_in, tree, tree_at, ◌-◌, ◌<◌, ◌∙◌, ◌≡◌}
use Rattle.cj_spans.proofs.Scanned.{length-spans_of}
use Rattle.cj_feature.proofs.NearLemmas.{each-set}
use Rattle.cj_feature.proofs.Walking.{shown-beside}
use Rattle.cj_feature.proofs.feature.search.near.lists.Lists.take.Goals as goal

pub returns-then-place : goal.returns-then-place
returns-then-place g c =
    let o = c.args.objects in
    let n = c.number-number.result in
    let spans = spans_by o in
    let inside = rw c.requires.object.1 at c.number-number.ensures.within in
    let same_length = length-spans_of (tokens_in (source_of o)) in
    let before : n - 1 ≡ c.number.result = omega arith in
    let name = ap (tree_at (line_of o) spans) before
    ∙ shown-beside o c.args.name c.requires.name c.number.result (tree c.args.name) c.number.ensures.token in
    let object =
    shown-beside o c.args.object c.requires.object n (tree c.args.object) c.number-number.ensures.token in
    each-set (λ n. (n < length spans) × Contains (members_of (tree o))
    (tree_at (line_of o) spans (n - 1), tree_at (line_of o) spans n)) c.args.self.now.slots _ c.ready.result
    c.requires.known
    (λ k r. elim c.ready.ensures [
      | inl h ↦ let e : k ≡ n = omega (arith, h.packed, r.packed) in
          rw e (omega arith, rw (name, object) c.requires.held)
      | inr z ↦ absurd (omega (arith, z, r.packed, r.above))
    ])
