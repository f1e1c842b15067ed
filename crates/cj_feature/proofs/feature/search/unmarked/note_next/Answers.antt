use Rattle.cj_feature.proofs.Common.{IsMarkedBy, IsNoted, Tree, ap, arith, inl, inr, length, length-set, side_in, side_of, source_of, sym, short_hash_of, take, text_of, tree, tree_in, ◌+◌, ◌∙◌, ◌≡◌}
use Rattle.cj_feature.proofs.Questions.{kept-first, last-first}
use Rattle.cj_feature.proofs.Walking.{passed-on}
use Rattle.cj_feature.proofs.feature.search.unmarked.note_next.Goals as goal

pub loop-count-preserved-then-not-marked : goal.loop-count-preserved-then-not-marked
loop-count-preserved-then-not-marked c =
    let objects = c.args.objects in
    let names = c.loop-count.names in
    let count = c.loop-count.count in
    let inv = c.loop-count.invariant in
    let steps = c.in-Some.ensures.steps in
    let name = tree c.in-Some.name in
    let v = c.of.result in
    let below = c.loop-count-test.true in
    let e = c.note.ensures in
    let long : length c.note.new.names ≡ length names = ap length e ∙ length-set names count v in
    let node = rw (steps.4.0 ∙ inv.source) at c.of.ensures.node in
    let side : side_in objects v ≡ side_of (text_of name) =
    ap (λ n. (n, text_of (tree_in (source_of objects) v.number))) c.of.ensures.short_hash
    ∙ ap (λ t. (short_hash_of (text_of name), text_of t)) node in
    let noted : (t : Tree) → IsNoted objects (take count names) t
    → IsNoted objects (take (count + 1) c.note.new.names) t =
    λ t n. (
      n.0,
      rw e (kept-first names count v below n.0 n.1),
      n.2,
    ) in
    let here : IsNoted objects (take (count + 1) c.note.new.names) name =
    (v, rw e (last-first names count v below), side) in
    record {
      few = omega (arith, below, long);
      same = long ∙ inv.same;
      fewer = omega (arith, inv.fewer, ap length steps.0);
      passed = passed-on objects _ _ _ _ _ (name, tree c.in-Some.object) steps.0 (inr here) noted inv.passed;
      line = steps.1 ∙ inv.line;
      source = steps.3 ∙ inv.source;
    }

pub loop-count-preserved : goal.loop-count-preserved
loop-count-preserved c =
    let objects = c.args.objects in
    let inv = c.loop-count.invariant in
    let steps = c.in-Some.ensures.steps in
    let here : IsMarkedBy objects (tree c.in-Some.object) =
    rw (sym (steps.2.1 ∙ inv.line), sym (steps.4.1 ∙ inv.source)) (c.marked.ensures.yes c.if-not-marked.false) in
    record {
      few = inv.few;
      same = inv.same;
      fewer = omega (arith, inv.fewer, ap length steps.0);
      passed = passed-on objects _ _ _ _ _ (tree c.in-Some.name, tree c.in-Some.object) steps.0 (inl here)
          (λ t n. n) inv.passed;
      line = steps.1 ∙ inv.line;
      source = steps.3 ∙ inv.source;
    }
