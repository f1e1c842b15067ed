use Rattle.cj_feature.proofs.Common.{BoundedList, IsToMark, Token, ap, document, false, false_from_ne_true, inl, inr, is_marked_at, refl, ◌∙◌, ◌≡◌}
use Rattle.cj_spans.proofs.Noted.{spans_kept, length_kept, of_kept}
use Rattle.cj_feature.proofs.Walking.{count-less, marked-more}
use Rattle.cj_feature.proofs.feature.search.reached.mark_reached.Goals as goal

pub of-requires : goal.of-requires
of-requires c =
    rw c.as_slice.ensures.value
    (of_kept c.args.line.now c.args.tokens.now.elements c.loop-number.tokens.elements c.loop-number.invariant.tokens
    c.requires.scanned)

-- the city object that is found next, told by the tokens
found : (c : goal.After-set_mark)
    → IsToMark (document c.of.result) c.args.line.now c.loop-number.tokens.elements c.in-Some.number
found c =
    rw (c.of.ensures.line, c.of.ensures.tokens ∙ c.as_slice.ensures.value) at c.in-Some.ensures.found

pub loop-number-smaller : goal.loop-number-smaller
loop-number-smaller c =
    let ts = c.loop-number.tokens.elements in
    let n = c.in-Some.number in
    let m = found c in
    let none : is_marked_at ts n ≡ false =
    false_from_ne_true _ (λ yes. m.unmarked (record { number = n; marked = yes; shown = refl })) in
    count-less ts c.set_mark.new.tokens.elements n
    (length_kept ts c.set_mark.new.tokens.elements c.set_mark.ensures.kept.tokens) m.within none
    c.set_mark.ensures.marked c.set_mark.ensures.others

pub loop-number-preserved : goal.loop-number-preserved
loop-number-preserved c =
    let inv = c.loop-number.invariant in
    let ts = c.loop-number.tokens.elements in
    let us = c.set_mark.new.tokens.elements in
    let n = c.in-Some.number in
    let line = c.args.line.now in
    let kept = c.set_mark.ensures.kept in
    let m = found c in
    record {
      tokens = kept.tokens ∙ inv.tokens;
      list = kept.list ∙ ap (λ (b : BoundedList Token). record b { elements = us }) inv.list;
      sound = λ t j u h.
          elim (marked-more line ts us n u kept.spans c.set_mark.ensures.others h) [
            | inl e ↦
                let root = c.of.ensures.only t j in
                rw (root, e) at (m.reached (λ v g. rw root (inv.sound t j v g)))
            | inr g ↦ inv.sound t j u g
          ];
    }

pub returns-clause-marks : goal.returns-clause-marks
returns-clause-marks c = λ t j u. (
  c.loop-number.invariant.sound t j u,
  λ h.
      rw (c.of.ensures.line, c.of.ensures.tokens ∙ c.as_slice.ensures.value) at
      (c.in_default.ensures.none u (rw (c.of.ensures.only t j) h)),
)

pub returns-clause-kept : goal.returns-clause-kept
returns-clause-kept c =
    let old = c.args.tokens.now.elements in
    let new = c.loop-number.tokens.elements in
    let same = c.loop-number.invariant.tokens in
    record {
      tokens = same;
      spans = spans_kept old new same;
      of = λ line. of_kept line old new same;
      list = c.loop-number.invariant.list;
      within = c.as_slice.ensures.within;
    }
