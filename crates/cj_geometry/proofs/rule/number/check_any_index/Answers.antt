use Rattle.cj_geometry.proofs.Common.{Ok, ap, false, is_outside, of_z, refl, sym, to_z, true, w64, ◌∙◌, ◌≡◌}
use Rattle.cj_geometry.proofs.Numbers.{index-read, whole-fits}
use Rattle.cj_geometry.proofs.rule.number.check_any_index.Goals as goal

pub returns-then-is_outside : goal.returns-then-is_outside
returns-then-is_outside c =
    let w = c.in-Ok-Some.whole in
    let same : to_z w64 (of_z w64 w) ≡ w = whole-fits w (rw c.in-Ok-Some.field-0-is at c.in-Ok-Some.ensures.small) in
    let outside : is_outside c.args.count w ≡ true = rw same at (sym c.is_outside.ensures ∙ c.if-is_outside.true) in
    rw (
      index-read _ _ (sym c.kind.ensures ∙ c.in-Number.is) _
          c.bytes.ensures.spelling _ _ c.read_whole.ensures.answer (c.in-Ok-Some.is ∙ ap Ok c.in-Ok-Some.field-0-is)
          c.args.outside c.args.count,
      outside,
    ) c.add.ensures

pub returns-else-is_outside : goal.returns-else-is_outside
returns-else-is_outside c =
    let w = c.in-Ok-Some.whole in
    let same : to_z w64 (of_z w64 w) ≡ w = whole-fits w (rw c.in-Ok-Some.field-0-is at c.in-Ok-Some.ensures.small) in
    let outside : is_outside c.args.count w ≡ false = rw same at (sym c.is_outside.ensures ∙ c.if-is_outside.false) in
    rw (
      index-read _ _ (sym c.kind.ensures ∙ c.in-Number.is) _
          c.bytes.ensures.spelling _ _ c.read_whole.ensures.answer (c.in-Ok-Some.is ∙ ap Ok c.in-Ok-Some.field-0-is)
          c.args.outside c.args.count,
      outside,
    ) refl

pub returns-in-Ok-None : goal.returns-in-Ok-None
returns-in-Ok-None c =
    rw (index-read _ _ (sym c.kind.ensures ∙ c.in-Number.is) _
    c.bytes.ensures.spelling _ _ c.read_whole.ensures.answer (c.in-Ok-None.is ∙ ap Ok c.in-Ok-None.field-0-is)
    c.args.outside c.args.count) c.add-in-Ok-None.ensures

pub returns-in-Err : goal.returns-in-Err
returns-in-Err c =
    rw (
      index-read _ _ (sym c.kind.ensures ∙ c.in-Number.is) _
          c.bytes.ensures.spelling _ _ c.read_whole.ensures.answer c.in-Err.is c.args.outside c.args.count,
      sym c.reason_of.ensures,
    ) c.add-in-Err.ensures
