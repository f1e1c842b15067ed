use Rattle.cj_feature.proofs.Common.{Some, ap, chars, codes, document, is_vertex, list_all, refl, sym, templates_of, tree, vertex_list, ◌∙◌}
use Rattle.cj_feature.proofs.Rules.{then-none}
use Rattle.cj_feature.proofs.Valid.{has-vertices}
use Rattle.cj_feature.proofs.Typed.{all-vertices}
use Rattle.cj_feature.proofs.feature.Feature.vertices.Goals as goal

pub over-requires : goal.over-requires
over-requires c =
    let f = c.args.self.now in
    let t = document f.doc in
    let vertices = tree c.vertices_node.result in
    let none = then-none vertex_list t (chars (codes "vertices"))
    (has-vertices (templates_of (document f.header)) t f.valid) (Some vertices) (sym c.vertices_node.ensures) vertices
    refl in
    ap (list_all is_vertex) c.items.ensures.items ∙ all-vertices vertices none
