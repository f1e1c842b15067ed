use Rattle.cityseq_command.proofs.Common.{ap, arith, flat_map, flat_map-map, row_at, sym, type_text, ◌∙◌}
use Rattle.cj_geometry.specs.declared.object_type.ObjectType.TheVariants.{Bridge}
use Rattle.cityseq_command.proofs.WroteLemmas.{Wrote-nothing, part-wrote, part-stops, parts-wrote}
use Rattle.cityseq_command.proofs.summary.write_types.Goals as goal

pub loop-object_type-init : goal.loop-object_type-init
loop-object_type-init g c = Wrote-nothing tt _

pub loop-object_type-preserved : goal.loop-object_type-preserved
loop-object_type-preserved g c =
    let t = c.args.tally.now in
    let one = rw (c.name.ensures.name, c.by_type.ensures) at c.in_ok-write_counted.ensures in
    part-wrote (λ o. type_text t (row_at o)) c.all-object_type-items.result c.loop-object_type.object_type-index
    c.loop-object_type.invariant Bridge (omega arith) one

pub returns-in_err-write_counted : goal.returns-in_err-write_counted
returns-in_err-write_counted g c =
    let t = c.args.tally.now in
    let types = c.all-object_type-items.result in
    let each = sym (flat_map-map (type_text t) row_at types)
    ∙ ap (flat_map (type_text t)) c.all-object_type-items.ensures in
    let one = rw (c.name.ensures.name, c.by_type.ensures) at c.in_err-write_counted.ensures in
    let part = part-stops (λ o. type_text t (row_at o)) types c.loop-object_type.object_type-index
    c.loop-object_type.invariant c.from_residual.ensures.0 Bridge (omega arith) one in
    rw each at part

pub returns : goal.returns
returns g c =
    let t = c.args.tally.now in
    let types = c.all-object_type-items.result in
    let each = sym (flat_map-map (type_text t) row_at types)
    ∙ ap (flat_map (type_text t)) c.all-object_type-items.ensures in
    let all = parts-wrote (λ o. type_text t (row_at o)) types c.loop-object_type.object_type-index
    c.loop-object_type.invariant (omega arith) in
    rw each at all
