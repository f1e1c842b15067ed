use Rattle.cj_feature.proofs.Common.{chars, codes, tree, true}
use Rattle.cj_feature.proofs.Rules.{axes-fixed, needs-three}
use Rattle.cj_feature.proofs.Valid.{has-scale, has-translate, no-finding}
use Rattle.cj_feature.proofs.header.reading.read_parts.Goals as goal

pub read_three_member-scale-requires : goal.read_three_member-scale-requires
read_three_member-scale-requires c =
    let n = tree c.args.root in
    let u = tree c.in-Some.transform in
    let b = c.args.with_box in
    needs-three (chars (codes "scale")) u b
    (has-scale b u (no-finding b n u c.requires c.in-Some.ensures.value))

pub read_three_member-translate-requires : goal.read_three_member-translate-requires
read_three_member-translate-requires c =
    let n = tree c.args.root in
    let u = tree c.in-Some.transform in
    let b = c.args.with_box in
    needs-three (chars (codes "translate")) u b
    (has-translate b u (no-finding b n u c.requires c.in-Some.ensures.value))

pub map_axes-requires-clause-scale : goal.map_axes-requires-clause-scale
map_axes-requires-clause-scale c =
    let n = tree c.args.root in
    let u = tree c.in-Some.transform in
    let valid = rw c.if-with_box.true at c.requires in
    axes-fixed (chars (codes "scale")) u c.read_three_member-scale.result
    (has-scale true u (no-finding true n u valid c.in-Some.ensures.value)) c.read_three_member-scale.ensures

pub map_axes-requires-clause-translate : goal.map_axes-requires-clause-translate
map_axes-requires-clause-translate c =
    let n = tree c.args.root in
    let u = tree c.in-Some.transform in
    let valid = rw c.if-with_box.true at c.requires in
    axes-fixed (chars (codes "translate")) u c.read_three_member-translate.result
    (has-translate true u (no-finding true n u valid c.in-Some.ensures.value)) c.read_three_member-translate.ensures
