use Rattle.cj_spans.specs.View.{tree}
use Rattle.cj_feature.proofs.Typed.{lone-before, within-items, whole-on, word-on-if}
use Rattle.cj_feature.proofs.feature.vertices.read_word_on.Goals as goal

pub item_behind-requires : goal.item_behind-requires
item_behind-requires c =
    let axis = c.args.axis in let t = tree c.args.node in
    let before = lone-before axis t c.requires.vertex c.requires.on_an_axis in
    (axis, within-items axis t c.requires.vertex c.requires.on_an_axis, before.1)

pub read_whole_word-requires : goal.read_whole_word-requires
read_whole_word-requires c =
    let axis = c.args.axis in let t = tree c.args.node in
    let before = lone-before axis t c.requires.vertex c.requires.on_an_axis in
    let within = within-items axis t c.requires.vertex c.requires.on_an_axis in
    let there = c.item_behind.ensures.tree axis within before.1 in
    whole-on axis t c.requires.vertex c.requires.on_an_axis (tree c.item_behind.result) there.0 there.1

pub returns : goal.returns
returns c =
    let axis = c.args.axis in let t = tree c.args.node in
    let before = lone-before axis t c.requires.vertex c.requires.on_an_axis in
    let within = within-items axis t c.requires.vertex c.requires.on_an_axis in
    let there = c.item_behind.ensures.tree axis within before.1 in
    word-on-if axis t c.requires.vertex c.requires.on_an_axis (tree c.item_behind.result) there.0 there.1
    c.read_whole_word.result c.read_whole_word.ensures
