use Rattle.cj_spans.proofs.Common.{◌∙◌, arith, chars, tree, members_left, members_source, source_of}
use Rattle.std.specs.Prelude.{get_or}
use Rattle.cj_spans.proofs.Noted.{found_from, found_none, found_here}
use Rattle.cj_spans.proofs.SourceWalks.{at_name}
use Rattle.cj_spans.proofs.node.Members.find.Goals as goal

pub returns-in_default : goal.returns-in_default
unfolding members_left
returns-in_default c = c.find_from.ensures

pub returns-then-place-eq0 : goal.returns-then-place-eq0
returns-then-place-eq0 c = found_none (chars _) c.in-Some.slot c.requires c.in-Some.ensures.slot c.if-place-eq0.true

pub returns-then-not-is_spelled : goal.returns-then-not-is_spelled
returns-then-not-is_spelled c =
    c.find_from-then-not-is_spelled.ensures
    ∙ found_from (chars _) c.in-Some.slot c.requires c.in-Some.ensures.slot (omega arith)

pub invariant_of-value : goal.invariant_of-value
invariant_of-value c =
    let w = c.args.self in
    let s = w.source in
    let h = c.requires.places c.in-Some.slot (omega arith) in
    let whole = h.whole.0 in
    let a = at_name s (get_or _ c.in-Some.slot 0) w.stop h.whole h.named h.within in
    let v = a.value in
    record { known = omega arith }

pub returns : goal.returns
unfolding tree source_of members_source
returns c =
    let name = chars c.args.name.now in
    let place = get_or c.args.places.now c.in-Some.slot 0 in
    let h = c.requires.places c.in-Some.slot (omega arith) in
    cc (
      c.number.ensures.node,
      found_here name h (c.is_spelled.ensures c.if-not-is_spelled.false),
      found_from name
          c.in-Some.slot c.requires c.in-Some.ensures.slot (omega arith),
    )
