use Rattle.cj_stream.proofs.Common.{List, Some, Tree, [], alone, ap, chars, codes, coordinates_left, feature_tree, items_if, meets, member_of, range_of, rules, sym, widened, ◌∙◌, ◌∷◌, ◌≡◌}
use Rattle.cj_stream.proofs.BoxLemmas.{first_small, range_small, first_meets}
use Rattle.cj_stream.proofs.query.extent.meets_on.Goals as goal

-- the trees of a feature's vertices
abbrev vertices : Tree → List Tree
vertices t = items_if (member_of (chars (codes "vertices")) t)

pub meets-requires : goal.meets-requires
meets-requires c =
    let first : c.alone-first.result ≡ alone c.in-Some.number = search rules in
    let numbers = sym c.coordinates-numbers.ensures.numbers ∙ c.in-Some.ensures.steps in
    rw first (first_small c.args.axis c.in-Some.number (coordinates_left c.next.new.self)
    (vertices (feature_tree c.args.feature.now)) numbers)

pub meets-requires-else-meets : goal.meets-requires-else-meets
meets-requires-else-meets c =
    let range = ap range_of (sym c.coordinates-numbers.ensures.numbers ∙ c.in-Some.ensures.steps)
    ∙ ap Some (ap (λ r. widened r (coordinates_left c.next.new.self)) (sym (search rules))
    ∙ sym c.widened_by.ensures) in
    range_small _ _ _ range

pub returns-then-meets-clause-met : goal.returns-then-meets-clause-met
returns-then-meets-clause-met c =
    let map = c.args.map.now in
    let first : c.alone-first.result ≡ alone c.in-Some.number = search rules in
    let said = c.meets.ensures (c.in-Some.number ∷ []) (ap Some (sym first)) in
    let all = first_meets map c.args.low c.args.high c.in-Some.number (coordinates_left c.next.new.self)
    (sym said ∙ c.if-meets.true) in
    c.if-meets.true ∙ sym all
    ∙ ap (meets map c.args.low c.args.high) (sym c.in-Some.ensures.steps ∙ c.coordinates-numbers.ensures.numbers)

pub returns-else-meets-clause-met : goal.returns-else-meets-clause-met
returns-else-meets-clause-met c =
    let range = ap range_of (sym c.coordinates-numbers.ensures.numbers ∙ c.in-Some.ensures.steps)
    ∙ ap Some (ap (λ r. widened r (coordinates_left c.next.new.self)) (sym (search rules))
    ∙ sym c.widened_by.ensures) in
    c.meets-else-meets.ensures _ range
