use Rattle.cj_spans.proofs.Common.{refl, rules}
use Rattle.cj_spans.proofs.Verdicts.{Ran, cleared, ran_tree, ran_unmarked, ran_sinks, ran_syntax, ran_utf8, finds_deep, finds_syntax, finds_tree, sinks_deep, utf8_whole, utf8_fault}
use Rattle.cj_spans.proofs.Judgements.{judgement, answer_of, ran_peak}
use Rattle.cj_spans.proofs.Endings.{first_too_deep, first_fault}
use Rattle.cj_spans.proofs.Sizes.{ran_sized}
use Rattle.cj_spans.proofs.scanner.scan_reserved.Goals as goal

ran : (c : goal.After-run)
    → Ran c.args.line.now c.args.tokens.now c.run.new.tokens c.args.stack.now c.run.new.stack c.run.result
ran c = search (rules, cleared)

pub returns-in-Ok-clause-tree : goal.returns-in-Ok-clause-tree
returns-in-Ok-clause-tree c = ran_tree _ (ran c)

pub returns-in-Ok-clause-sized : goal.returns-in-Ok-clause-sized
returns-in-Ok-clause-sized c = ran_sized _ (ran c)

pub returns-in-Ok-clause-unmarked : goal.returns-in-Ok-clause-unmarked
returns-in-Ok-clause-unmarked c = ran_unmarked _ (ran c)

pub returns-in-Ok-clause-not_utf8 : goal.returns-in-Ok-clause-not_utf8
returns-in-Ok-clause-not_utf8 c = λ i. (
  λ e. absurd (ran_utf8 (ran c) i e),
  λ v. absurd (utf8_whole _ i v c.in-Ok.ensures.ok),
)

pub returns-in-Ok-clause-too_deep : goal.returns-in-Ok-clause-too_deep
returns-in-Ok-clause-too_deep c = λ i e. sinks_deep (ran_sinks (ran c) i e).0

pub returns-in-Ok-clause-syntax : goal.returns-in-Ok-clause-syntax
returns-in-Ok-clause-syntax c = ran_syntax (ran c)

pub returns-in-Ok-clause-first_too_deep : goal.returns-in-Ok-clause-first_too_deep
returns-in-Ok-clause-first_too_deep c = λ i e.
    first_too_deep (ran_sinks (ran c) i e).0

pub returns-in-Ok-clause-first_fault : goal.returns-in-Ok-clause-first_fault
returns-in-Ok-clause-first_fault c = λ i e. first_fault (ran_syntax (ran c) i e).0

pub returns-in-Ok-clause-finds_tree : goal.returns-in-Ok-clause-finds_tree
returns-in-Ok-clause-finds_tree c = λ u t j h. finds_tree _ t (ran c) j h

pub returns-in-Ok-clause-finds_deep : goal.returns-in-Ok-clause-finds_deep
returns-in-Ok-clause-finds_deep c = λ u i d. finds_deep _ (ran c) d

pub returns-in-Ok-clause-finds_syntax : goal.returns-in-Ok-clause-finds_syntax
returns-in-Ok-clause-finds_syntax c = λ u n i s. finds_syntax _ (ran c) n s

pub returns-in-Err-clause-not_utf8 : goal.returns-in-Err-clause-not_utf8
returns-in-Err-clause-not_utf8 c = utf8_fault _ _ c.in-Err.ensures.err

pub returns-in-Ok-clause-judged : goal.returns-in-Ok-clause-judged
returns-in-Ok-clause-judged c = λ j u.
    answer_of j _ (returns-in-Ok-clause-finds_tree c u) (returns-in-Ok-clause-finds_deep c u)
    (returns-in-Ok-clause-finds_syntax c u)

pub returns-in-Ok-clause-unread : goal.returns-in-Ok-clause-unread
returns-in-Ok-clause-unread c = λ i e. absurd (ran_utf8 (ran c) i e)

pub returns-in-Ok-clause-peak : goal.returns-in-Ok-clause-peak
returns-in-Ok-clause-peak c = ran_peak (ran c)

pub returns-in-Ok-clause-judgement : goal.returns-in-Ok-clause-judgement
returns-in-Ok-clause-judgement c = judgement _ _

pub returns-in-Err-clause-judgement : goal.returns-in-Err-clause-judgement
returns-in-Err-clause-judgement c = judgement _ _

pub returns-in-Err-clause-utf8 : goal.returns-in-Err-clause-utf8
returns-in-Err-clause-utf8 c = λ h. absurd (h _ refl)

pub returns-in-Err-clause-finds_tree : goal.returns-in-Err-clause-finds_tree
returns-in-Err-clause-finds_tree c = λ u. absurd (utf8_whole _ _ c.in-Err.ensures.err u)

pub returns-in-Err-clause-finds_deep : goal.returns-in-Err-clause-finds_deep
returns-in-Err-clause-finds_deep c = λ u. absurd (utf8_whole _ _ c.in-Err.ensures.err u)

pub returns-in-Err-clause-finds_syntax : goal.returns-in-Err-clause-finds_syntax
returns-in-Err-clause-finds_syntax c = λ u. absurd (utf8_whole _ _ c.in-Err.ensures.err u)

pub returns-in-Err-clause-judged : goal.returns-in-Err-clause-judged
returns-in-Err-clause-judged c = λ j u. absurd (utf8_whole _ _ c.in-Err.ensures.err u)
