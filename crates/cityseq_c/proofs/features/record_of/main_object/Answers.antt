use Rattle.cityseq_c.proofs.Common.{ap, first_named, objects_left, sym, tree, ◌∙◌, arith}
use Rattle.cityseq_c.proofs.RecordLemmas.{main-first, main-here, main-past}
use Rattle.cityseq_c.proofs.features.record_of.main_object.Goals as goal

pub loop-object-init : goal.loop-object-init
loop-object-init c =
    grind (arith, main-first)

pub loop-object-preserved : goal.loop-object-preserved
loop-object-preserved c =
    let step = c.in-Some.ensures.steps.0 in
    let before = c.loop-object.invariant in
    record {
      main = λ x is. sym (main-past (tree c.id-id.result) x is _ (objects_left c.next.new.self) c.same_text.result
          c.same_text.ensures.test c.if-same_text.false) ∙ (sym (ap (first_named x) step) ∙ before.main x is);
      line = c.in-Some.ensures.steps.1 ∙ before.line;
    }

pub returns-then-same_text-clause-tree : goal.returns-then-same_text-clause-tree
returns-then-same_text-clause-tree c =
    let step = c.in-Some.ensures.steps.0 in
    let named = c.id-id.ensures.named in
    sym (main-here (tree c.id-id.result) named.0 named.1 _ (objects_left c.next.new.self) c.same_text.result
    c.same_text.ensures.test c.if-same_text.true)
    ∙ (sym (ap (first_named named.0) step) ∙ c.loop-object.invariant.main named.0 named.1)

pub returns-then-same_text-clause-line : goal.returns-then-same_text-clause-line
returns-then-same_text-clause-line c = c.in-Some.ensures.steps.2.1 ∙ c.loop-object.invariant.line

pub returns-clause-tree : goal.returns-clause-tree
returns-clause-tree c =
    let named = c.id-id.ensures.named in
    sym (ap (first_named named.0) c.in-None.ensures.steps.0.0) ∙ c.loop-object.invariant.main named.0 named.1
