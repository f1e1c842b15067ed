use Rattle.cj_stream.proofs.Common.{AreThere, IfSome, arith, box_of, feature_tree, header_tree, length, rules, subst, sym, ◌∙◌, ◌≡◌}
use Rattle.cj_stream.proofs.BoxLemmas.{on-axis, box-first, box-numbers, and_second, and_first}
use Rattle.cj_stream.proofs.query.extent.is_in.Goals as goal

pub returns-then-meets_on : goal.returns-then-meets_on
returns-then-meets_on c =
    let header = header_tree c.args.header.now in
    let t = feature_tree c.args.feature.now in
    let there =
    rw c.in-Some.is at c.affine.ensures.there in
    let two : length c.in-Some.maps ≡ 2 = search rules in
    let x = on-axis _ t _ 0 _ there (omega arith) c.meets_on.ensures.there in
    let y = on-axis _ t _ 1 _ there (omega arith)
    c.meets_on-then-meets_on.ensures.there in
    and_second _ _ _ _ c.meets_on.ensures.met c.if-meets_on.true c.meets_on-then-meets_on.ensures.met
    ∙ sym (box-numbers (box_of c.args.bounds.now) _ t _ _ x y)

pub returns-else-meets_on : goal.returns-else-meets_on
returns-else-meets_on c =
    let header = header_tree c.args.header.now in
    let t = feature_tree c.args.feature.now in
    let box = box_of c.args.bounds.now in
    let two : length c.in-Some.maps ≡ 2 = search rules in
    let x = on-axis _ t _ 0 _ (subst (λ o. IfSome o (λ maps. AreThere header maps)) c.in-Some.is
    c.affine.ensures.there) (omega arith) c.meets_on.ensures.there in
    and_first _ _ _ c.meets_on.ensures.met
    c.if-meets_on.false
    ∙ sym (box-first _ _ t _ x)
