use Rattle.cityseq_c.proofs.Common.{[], ap, arith, begin_of, drop_all, finder_text, inl, inr, length, lines, place_of, refl, sym, ◌++◌, ◌+◌, ◌∙◌, ◌≡◌, ◌≤◌, ◌⊎◌}
use Rattle.cityseq_c.proofs.CursorLemmas.{along-next, begin-found}
use Rattle.cityseq_c.proofs.finder.Finder.begin.Goals.{then-line, else-line, then-loop-self-test+else-not-is_at_end, else-loop-self-test}
use Rattle.cityseq_c.proofs.finder.Finder.begin.Goals as goal

pub invariant_of-self-in-loop-self-clause-along : goal.invariant_of-self-in-loop-self-clause-along
invariant_of-self-in-loop-self-clause-along c =
    let self = c.loop-self.self in
    along-next self.part.now (place_of self.cursor) c.next_line.result.now (place_of c.next_line.new.self) self.along
    c.next_line.ensures.passes

pub returns-clause-begin : goal.returns-clause-begin
returns-clause-begin c =
    let self = c.loop-self.self in
    let line = c.args.line in
    let kept = c.loop-self.invariant in
    let few : self.cursor.line ≤ line = kept.2 in
    let first : finder_text c.if-line.self ≡ finder_text c.args.self.now = elim c.if-line.branch [
      | then-line w ↦ ap finder_text w.self-is
      | else-line w ↦ ap finder_text w.self-is
    ] in
    let text : finder_text self ≡ finder_text c.args.self.now = ap (λ h. h.now ++ self.part.now) kept.0
    ∙ (ap (λ p. c.if-line.self.header.now ++ p.now) kept.1 ∙ first) in
    let end : (self.cursor.line ≡ line) ⊎ ((place_of self.cursor).left ≡ []) = elim c.loop-self-test.branch [
      | then-loop-self-test+else-not-is_at_end w ↦
          inr (ap lines (drop_all self.cursor.at self.cursor.part.now (w.if-not-is_at_end.ensures.0 refl)))
      | else-loop-self-test w ↦ inl (omega (arith, few, c.line-in-loop-self.ensures, w.loop-self-test.false))
    ] in
    let found = begin-found self.part.now (place_of self.cursor) line self.along few end in
    ap (λ n. length self.header.now + n) (c.begin.ensures ∙ sym found)
    ∙ (sym (self.behind line (omega (arith, c.if-line-lt2.false))) ∙ ap (λ t. begin_of t line) text)
