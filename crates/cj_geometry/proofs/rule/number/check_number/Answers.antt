use Rattle.cj_geometry.proofs.Common.{Err, ap, refl, sym, ◌∙◌}
use Rattle.cj_geometry.proofs.Numbers.{number-in, number-fault}
use Rattle.cj_geometry.proofs.rule.number.check_number.Goals as goal

pub returns-in-Ok : goal.returns-in-Ok
returns-in-Ok c =
    let n = c.args.node in
    let is = rw c.bytes.ensures.spelling at (c.in-Ok.ensures.ok.0 refl) in
    rw (number-in _ _ (sym c.kind.ensures ∙ c.in-Number.is) is) refl

pub returns-in-Err : goal.returns-in-Err
returns-in-Err c =
    let n = c.args.node in
    let none = rw c.bytes.ensures.spelling at c.read.ensures.not_a_number.0 in
    let out = rw c.bytes.ensures.spelling at c.read.ensures.number_range.0 in
    rw (
      number-fault _ _ (sym c.kind.ensures ∙ c.in-Number.is) c.in-Err.fault
          (λ e. none (c.in-Err.is ∙ ap Err e)) (λ e. out (c.in-Err.is ∙ ap Err e)),
      sym c.reason_of.ensures,
    ) c.add.ensures
