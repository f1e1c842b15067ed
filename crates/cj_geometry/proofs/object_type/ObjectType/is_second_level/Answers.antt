use Rattle.std.proofs.Common.{◌∙◌, sym}
use Rattle.cj_geometry.proofs.Values.{type-number, type-level}
use Rattle.cj_geometry.specs.declared.object_type.ObjectType.TheVariants.{BridgeConstructiveElement}
use Rattle.cj_geometry.proofs.object_type.ObjectType.is_second_level.Goals as goal

pub returns : goal.returns
returns c =
    let own = c.number.ensures.number ∙ type-number c.args.self in
    let first = c.number-2.ensures.number ∙ type-number BridgeConstructiveElement in
    rw (own, first) (sym (type-level c.args.self))
