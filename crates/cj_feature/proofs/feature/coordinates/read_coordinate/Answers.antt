use Rattle.cj_feature.proofs.Common.{List, Tree, ap, arith, begins_whole, drop, drop-map, items_left, items_of, map, rules, sym, tree, vertex_of, whole_of, ℕ, ◌∙◌, ◌≡◌}
use Rattle.cj_feature.proofs.Typed.{three-begin, number-begins}
use Rattle.cj_feature.proofs.feature.coordinates.read_coordinate.Goals as goal

-- the numbers from the axis on are left
from-axis : (t : Tree) (left : List Tree) (passed axis : ℕ) → left ≡ drop passed (items_of t) → passed ≡ axis
    → map whole_of left ≡ drop axis (vertex_of t)
from-axis t left passed axis is there = ap (map whole_of) is ∙ sym (drop-map whole_of passed (items_of t))
    ∙ ap (λ k. drop k (vertex_of t)) there

pub next_whole-requires : goal.next_whole-requires
next_whole-requires c =
    let vertex = vertex_of (tree c.args.node) in
    ap begins_whole (from-axis (tree c.args.node) (items_left c.loop.items) c.loop.counter c.args.axis c.loop.invariant
    (omega arith)) ∙ three-begin c.args.axis vertex c.requires.whole c.requires.on_an_axis

pub returns : goal.returns
returns c =
    let vertex = vertex_of (tree c.args.node) in
    let left = from-axis (tree c.args.node) (items_left c.loop.items) c.loop.counter c.args.axis c.loop.invariant
    (omega arith) in
    let value = sym (number-begins c.args.axis vertex _ c.next_whole.result (sym left ∙ c.next_whole.ensures)) in
    search (rules, value)
