use Rattle.cj_spans.proofs.Common.{Err, subst, inl, inr, arith, NotUtf8, Syntax, TooDeep, Judgement, IsReservedAnswerOf}
use Rattle.cj_spans.proofs.Verdicts.{fault_back, fault_on, fault_judged, ok_no_fault}
use Rattle.cj_spans.proofs.Judgements.{judgement, peak_from}
use Rattle.cj_spans.proofs.scanner.scan.Goals as goal

pub returns-in_err-scan_reserved-clause-not_utf8 : goal.returns-in_err-scan_reserved-clause-not_utf8
returns-in_err-scan_reserved-clause-not_utf8 c = λ i h.
    (c.in_err-scan_reserved.ensures.not_utf8 i).0
    (fault_back _ _ c.from_residual-in_err-scan_reserved.ensures.1 (NotUtf8 i) h)

pub returns-in_err-scan_reserved-clause-too_deep : goal.returns-in_err-scan_reserved-clause-too_deep
returns-in_err-scan_reserved-clause-too_deep c = λ i h.
    rw (← c.in_ok-make_room.ensures.emptied.1.limit)
    (c.in_err-scan_reserved.ensures.too_deep i
    (fault_back _ _ c.from_residual-in_err-scan_reserved.ensures.1 (TooDeep i) h))

pub returns-in_err-scan_reserved-clause-first_too_deep : goal.returns-in_err-scan_reserved-clause-first_too_deep
returns-in_err-scan_reserved-clause-first_too_deep c = λ i h.
    rw (← c.in_ok-make_room.ensures.emptied.1.limit)
    (c.in_err-scan_reserved.ensures.first_too_deep i
    (fault_back _ _ c.from_residual-in_err-scan_reserved.ensures.1 (TooDeep i) h))

pub returns-in_err-scan_reserved-clause-first_fault : goal.returns-in_err-scan_reserved-clause-first_fault
returns-in_err-scan_reserved-clause-first_fault c = λ i h.
    c.in_err-scan_reserved.ensures.first_fault i
    (fault_back _ _ c.from_residual-in_err-scan_reserved.ensures.1 (Syntax i) h)

pub returns-in_err-scan_reserved-clause-finds_not_utf8 : goal.returns-in_err-scan_reserved-clause-finds_not_utf8
returns-in_err-scan_reserved-clause-finds_not_utf8 c = λ i v.
    inl (fault_on _ _ c.from_residual-in_err-scan_reserved.ensures.1 (NotUtf8 i)
    ((c.in_err-scan_reserved.ensures.not_utf8 i).1 v))

pub returns-in_err-scan_reserved-clause-finds_syntax : goal.returns-in_err-scan_reserved-clause-finds_syntax
returns-in_err-scan_reserved-clause-finds_syntax c = λ u n i s.
    inl (fault_on _ _ c.from_residual-in_err-scan_reserved.ensures.1 (Syntax i)
    (c.in_err-scan_reserved.ensures.finds_syntax u (rw c.in_ok-make_room.ensures.emptied.1.limit n) i s))

pub returns-in_err-scan_reserved-clause-judged : goal.returns-in_err-scan_reserved-clause-judged
returns-in_err-scan_reserved-clause-judged c = λ j u. fault_judged _ _ c.from_residual-in_err-scan_reserved.ensures.1 j
    (subst (λ d. (k : Judgement c.args.line.now d) → IsReservedAnswerOf k (Err c.in_err-scan_reserved.field-0.0))
    c.in_ok-make_room.ensures.emptied.1.limit (λ k. c.in_err-scan_reserved.ensures.judged k u) j)

pub returns-in_err-scan_reserved-clause-peak : goal.returns-in_err-scan_reserved-clause-peak
returns-in_err-scan_reserved-clause-peak c = λ i h.
    let risen = c.in_ok-make_room.ensures.emptied.1.peak in
    peak_from _ _ (omega arith) (c.in_err-scan_reserved.ensures.peak i (elim h [
      | inl e ↦ inl (fault_back _ _ c.from_residual-in_err-scan_reserved.ensures.1 (Syntax i) e)
      | inr e ↦ inr (fault_back _ _ c.from_residual-in_err-scan_reserved.ensures.1 (TooDeep i) e)
    ]))

pub returns-in_err-make_room-clause-judgement : goal.returns-in_err-make_room-clause-judgement
returns-in_err-make_room-clause-judgement c = judgement _ _

pub returns-in_err-scan_reserved-clause-judgement : goal.returns-in_err-scan_reserved-clause-judgement
returns-in_err-scan_reserved-clause-judgement c = judgement _ _

pub returns-clause-judgement : goal.returns-clause-judgement
returns-clause-judgement c = judgement _ _

pub returns-clause-finds_not_utf8 : goal.returns-clause-finds_not_utf8
returns-clause-finds_not_utf8 c =
    λ i v. absurd (ok_no_fault _ (NotUtf8 i) ((c.in_ok-scan_reserved.ensures.not_utf8 i).1 v))
