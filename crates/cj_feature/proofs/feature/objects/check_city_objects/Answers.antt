use Rattle.cj_feature.proofs.Common.{Tree, city_object, distinct, flat_map, is_object, members_of, object_links, sym, tree, ◌++◌}
use Rattle.cj_spans.proofs.Findings.{least_on, least-two}
use Rattle.cj_geometry.proofs.Values.{of_kind-then}
use Rattle.cj_feature.proofs.LinkFaults.{next_unlinked}
use Rattle.cj_geometry.specs.Given.{given}
use Rattle.std.proofs.lemmas.Bool.{or_parts}
use Rattle.cj_feature.proofs.feature.objects.check_city_objects.Goals as goal

pub loop-object-preserved : goal.loop-object-preserved
loop-object-preserved c = (
  least_on (λ m. city_object c.args.beside.extensions c.args.vertices (given c.args.beside.templates) m.1) _ _ _ _ _ _
      c.loop-object.invariant.0 c.in-Some.ensures.steps.0 c.check_city_object-linked.ensures.found,
  λ e all.
      let n = or_parts c.loop-object.linked c.check_city_object-linked.result e in
      next_unlinked (object_links all) _ _ _ _ (c.loop-object.invariant.1 n.0 all) c.in-Some.ensures.steps.0
      (c.check_city_object-linked.ensures.unlinked n.1 all (tree c.in-Some.field-0-0)),
)

pub returns-in-None-clause-found : goal.returns-in-None-clause-found
returns-in-None-clause-found c =
    let n = tree c.args.node in
    let beside = c.args.beside in
    let one = λ (m : Tree × Tree). city_object beside.extensions c.args.vertices (given beside.templates) m.1 in
    let each = λ (u : Tree). flat_map one (members_of u) in
    let walked = rw c.in-None.ensures.steps.0.0 at c.loop-object.invariant.0 in
    of_kind-then is_object (λ u. distinct u ++ each u) n _ _ _ (sym c.if-check_object.ensures.is)
    c.check_object.ensures.found
    (least-two c.check_object.new.found c.check_names.new.found c.loop-object.found (distinct n)
    (each n) c.check_names.ensures walked)
