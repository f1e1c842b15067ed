use Rattle.cj_geometry.proofs.Common.{chars, codes, is_text, needs, nothing, of_kind, semantics_if, shape, tree, ◌∙◌}
use Rattle.cj_spans.proofs.Findings.{least-three}
use Rattle.cj_geometry.proofs.geometry.check_parts.Goals as goal

pub check_text_there-requires : goal.check_text_there-requires
check_text_there-requires c = (chars (codes "lod"), c.at_if.ensures.tree ∙ c.requires.lod)

pub returns : goal.returns
returns c =
    let n = tree c.args.geometry.object in
    let parts = c.requires in
    least-three c.args.found.now c.check_text_there.new.found c.check_boundaries.new.found
    c.check_semantics_if.new.found (needs (chars (codes "lod")) (of_kind is_text nothing) n)
    (needs (chars (codes "boundaries")) (shape c.args.vertices c.args.depth) n) (semantics_if c.args.values n)
    (c.check_text_there.ensures (chars (codes "lod")) (c.at_if.ensures.tree ∙ parts.lod)) c.check_boundaries.ensures
    (c.check_semantics_if.ensures n (c.at_if-3.ensures.tree ∙ parts.semantics)
    (c.at_if-4.ensures.tree ∙ parts.boundaries))
