use Rattle.cityseq_c.proofs.Common.{Account, Complete, IsJudged, IsUnread, None, ap, run_over, subst, sym, ◌-◌, ◌∙◌, ◌≡◌, arith, rules}
use Rattle.cj_stream.specs.Parts.{headed, capped_end, moved_end}
use Rattle.cj_stream.proofs.AccountLemmas.{Account-stays}
use Rattle.cityseq_c.specs.Answer.{answer_of}
use Rattle.cityseq_c.specs.Joined.{ended_by}
use Rattle.cityseq_c.proofs.AnswerLemmas.{complete-of, ended-of, judged-moved, judged-unread, not-complete, outcome-of, same-end}
use Rattle.cityseq_c.proofs.answer.Answer.then.Goals as goal

pub returns-then-self-ne0-clause-account : goal.returns-then-self-ne0-clause-account
returns-then-self-ne0-clause-account c rules h a b cut few x y = search (
  rules,
  Account-stays,
  not-complete,
  judged-unread,
)

pub returns-in-Some-clause-account : goal.returns-in-Some-clause-account
returns-in-Some-clause-account c rules h a b cut few x y =
    let e = c.in-Some.ended in
    let same : e ≡ y.outcome.ended =
    same-end e y.outcome.ended (ended_by c.args.next.now) (sym c.ended.ensures ∙ c.in-Some.is) (ended-of y) in
    let first : c.outcome.result ≡ x.outcome = c.outcome.ensures
    ∙ outcome-of x Complete (complete-of x c.if-self-ne0.false) in
    let second : c.outcome-in-Some.result ≡ y.outcome = c.outcome-in-Some.ensures ∙ outcome-of y e same in
    let both = c.then.ensures.complete (ap (λ o. o.ended) c.outcome.ensures) in
    record {
      outcome = c.then.result;
      judged = subst (λ o. IsJudged o.ended) (sym both)
          (subst (λ o. IsJudged (capped_end (moved_end (c.outcome.result.lines - 1) o.ended))) (sym second)
          (judged-moved (c.outcome.result.lines - 1) y.outcome.ended y.judged));
      account = c.then.ensures.account rules h a b None None cut
          (subst (λ o. IsUnread o.ended) (sym first) (judged-unread x.outcome.ended x.judged))
          (rw (c.outcome.ensures, c.outcome-in-Some.ensures) few)
          (subst (λ o. Account (run_over rules (headed h a) o) (Unit {0})) (sym first) x.account)
          (subst (λ o. Account (run_over rules (headed h b) o) (Unit {0})) (sym second) y.account);
      shown = c.answer_of_outcome.ensures
          ∙ ap (λ n. answer_of c.then.result n) (sym (ap (λ z. z.written) c.answer_of_outcome.ensures));
    }

pub returns-in-Some-clause-judged : goal.returns-in-Some-clause-judged
returns-in-Some-clause-judged c ended zero is =
    grind (arith, same-end)
