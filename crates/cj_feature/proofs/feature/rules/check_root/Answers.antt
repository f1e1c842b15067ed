use Rattle.cj_feature.proofs.Common.{arith, chars, city_objects, codes, count_of, member_of, needs, tree, vertex_list, ◌∙◌}
use Rattle.cj_spans.proofs.Findings.{least-append, least-swap}
use Rattle.cj_geometry.specs.Given.{given}
use Rattle.cj_feature.proofs.feature.rules.check_root.Goals as goal

pub returns-then-check_object : goal.returns-then-check_object
returns-then-check_object c =
    let n = tree c.args.node in
    let linked = rw (c.at_if-then-check_object-4.ensures.tree ∙ c.requires.members.objects) at c.check_links_if.ensures
    in
    let counted = rw c.check_vertices_member-count.ensures.count at c.check_city_objects_member-linked.ensures.found in
    let named =
    c.check_name_there.ensures (chars (codes "type")) (c.at_if-kind.ensures.tree ∙ c.requires.members.kind) in
    let swapped =
    least-swap c.check_id_member.new.found (needs (chars (codes "vertices")) vertex_list n)
    (needs (chars (codes "CityObjects"))
    (city_objects c.args.beside.extensions (count_of (member_of (chars (codes "vertices")) n))
    (given c.args.beside.templates)) n) in
    grind (arith, least-append)
