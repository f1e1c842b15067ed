use Rattle.cj_feature.proofs.Common.{refl, units_of}
use Rattle.cj_feature.proofs.Rules.{fixed-units, units-only}
use Rattle.cj_feature.proofs.header.reading.map_axis.Goals as goal

pub returns : goal.returns
returns c =
    let scale = units-only c.args.scale c.in-Some.scale c.requires.scale c.in-Some.ensures.value in
    let shift = units-only c.args.shift c.in-Some-fixed18.shift c.requires.shift c.in-Some-fixed18.ensures.value in
    rw (c.new.ensures, scale, shift) refl

pub unreachable-requires : goal.unreachable-requires
unreachable-requires c =
    let some = c.in_default.ensures.fixed.1 (units_of c.args.scale, fixed-units c.args.scale c.requires.scale) in
    absurd (cc some)

pub unreachable-requires-in_default-fixed18 : goal.unreachable-requires-in_default-fixed18
unreachable-requires-in_default-fixed18 c =
    let some = c.in_default-fixed18.ensures.fixed.1
    (units_of c.args.shift, fixed-units c.args.shift c.requires.shift) in
    absurd (cc some)
