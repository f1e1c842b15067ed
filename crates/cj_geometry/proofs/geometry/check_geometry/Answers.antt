use Rattle.cj_geometry.proofs.Common.{distinct, is_object, sym, tree, typed_rules, ◌++◌}
use Rattle.cj_geometry.specs.Given.{given}
use Rattle.cj_spans.proofs.Findings.{least-two}
use Rattle.cj_geometry.proofs.Values.{of_kind-then}
use Rattle.cj_geometry.proofs.geometry.check_geometry.Goals as goal

pub returns-then-check_object : goal.returns-then-check_object
returns-then-check_object c =
    let n = tree c.args.node in
    let typed = typed_rules c.args.vertices (given c.args.templates) in
    of_kind-then is_object (λ g. distinct g ++ typed g) n _ _ _ (sym c.if-check_object.ensures.is)
    c.check_object.ensures.found
    (least-two c.check_object.new.found c.check_names_unless.new.found c.check_typed.new.found (distinct n)
    (typed n) c.check_names_unless.ensures c.check_typed.ensures)
