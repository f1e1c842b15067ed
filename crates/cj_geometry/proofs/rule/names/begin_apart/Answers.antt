use Rattle.cj_geometry.proofs.Common.{ap, are_apart, arith, false, length-set, members_left, members_of, refl, replicate, sym, tree, true, ◌%◌, ◌∙◌}
use Rattle.cj_geometry.proofs.Names.{apart-on, distinct_apart}
use Rattle.cj_geometry.proofs.rule.names.begin_apart.Goals as goal

pub loop-name-init : goal.loop-name-init
loop-name-init c =
    let walk = c.into_iter-name-iterator.ensures.into_iter_gives in
    (ap (are_apart (replicate 32 false)) (sym (ap members_left walk ∙ c.members-name-items.ensures.members)), refl)

pub loop-name-preserved : goal.loop-name-preserved
loop-name-preserved c =
    let code = c.in-Some-first_code.code in (
      c.loop-name.invariant.0
          ∙ apart-on _ _ _ code c.in-Some.ensures.steps.0
          (sym c.first_code.ensures ∙ c.in-Some-first_code.is) c.if-taken-slot.false,
      length-set c.loop-name.taken (code % 32) true ∙ c.loop-name.invariant.1,
    )

pub returns : goal.returns
returns c = λ h.
    distinct_apart (replicate 32 false) (members_of (tree c.args.object)) (omega arith)
    (c.loop-name.invariant.0 ∙ ap (are_apart c.loop-name.taken) c.in-None.ensures.steps.0.0)
