use Rattle.cj_feature.proofs.Common.{AreQuestionsInOrder, List, Question, ap, append-nil, arith, drop, drop_all, key_in, length, ranks_by, rules, subst, sym, take, ◌++◌, ◌+◌, ◌<◌, ◌∙◌, ◌≤◌}
use Rattle.cj_feature.proofs.Questions.{keys_total, next_one, one_less, one_more}
use Rattle.cj_feature.proofs.feature.search.questions.gathering.take_out_repeated.Goals.{then-kept-eq0, else-kept-eq0+else-not-are_same}
use Rattle.cj_feature.proofs.feature.search.questions.gathering.take_out_repeated.Goals as goal

pub loop-i-preserved : goal.loop-i-preserved
loop-i-preserved c =
    let qs = c.loop-i.questions in
    let kept = c.loop-i.kept in
    let i = c.loop-i.i in
    let inv = c.loop-i.invariant in
    let below : i < length qs = omega arith in
    let InOrder : List Question → Type 0 = AreQuestionsInOrder c.args.objects in
    elim c.if-kept-eq0.branch [
      | then-kept-eq0 w ↦ record {
        few = search rules;
        length = search rules;
        order = λ up. subst InOrder
            (sym (ap (λ n. take n c.if-kept-eq0.questions ++ drop (i + 1) c.if-kept-eq0.questions) w.kept-is
            ∙ ap (λ l. take (kept + 1) l ++ drop (i + 1) l) w.questions-is ∙ one_more qs kept i _ inv.few below))
            (inv.order up);
      }
      | else-kept-eq0+else-not-are_same w ↦
          let next = next_one qs i below in
          record {
            few = search rules;
            length = search rules;
            order = λ up.
                let less = one_less _ (ranks_by keys_total (key_in c.args.objects)) (take kept qs) next.0
                (drop (i + 1) qs) (subst (λ l. InOrder (take kept qs ++ l)) next.1 (inv.order up)) in
                subst InOrder (sym (ap (λ n. take n c.if-kept-eq0.questions ++ drop (i + 1) c.if-kept-eq0.questions)
                w.kept-is ∙ ap (λ l. take kept l ++ drop (i + 1) l) w.questions-is)) less;
          }
    ]

pub returns-clause-order : goal.returns-clause-order
returns-clause-order c = λ up.
    let qs = c.loop-i.questions in
    let kept = c.loop-i.kept in
    let end : length qs ≤ c.loop-i.i = omega arith in
    subst (AreQuestionsInOrder c.args.objects)
    (ap (λ l. take kept qs ++ l) (drop_all c.loop-i.i qs end) ∙ append-nil (take kept qs))
    (c.loop-i.invariant.order up)
