use Rattle.cj_spans.proofs.Common.{◌+◌, ◌∙◌, map, ap, sym, subst, arith, false≢true, are_apart, spans_of, Tree, tree, tree_at, members_left, pairs_of, common_steps}
use Rattle.cj_spans.specs.inner.Noted.{AreNoted, IsPlace, is_noted, members_from}
use Rattle.cj_spans.proofs.Noted.{noted_on, apart_on, noted_none}
use Rattle.cj_spans.proofs.SourceWalks.{at_name, member_on, shown_none, whole_later, number_linked}
use Rattle.cj_spans.proofs.node.Members.note_all.Goals as goal
use Rattle.cj_spans.proofs.node.Members.note_all.Goals.{then-not-note_place, else-not-note_place}

pub loop-next-init : goal.loop-next-init
unfolding members_left
loop-next-init c =
    let w = c.args.self in
    let none = sym c.requires.none in
    record {
      begun = c.requires.begun;
      whole = w.whole;
      named = w.named;
      noted = subst (AreNoted w (members_left w)) none (noted_none w);
      apart = λ h. ap (λ ps. are_apart (map is_noted ps) (members_left w)) none;
    }

pub overflow_cast-next : goal.overflow_cast-next
overflow_cast-next c =
    let s = c.args.self.source in
    let i = c.loop-next.invariant in
    let whole = i.whole.0 in
    let l = number_linked s c.loop-next.next (omega arith) in omega arith

pub after-next-requires : goal.after-next-requires
after-next-requires c = grind (arith, common_steps, at_name)

pub loop-next-preserved : goal.loop-next-preserved
unfolding tree
loop-next-preserved c =
    let w = c.args.self in
    let s = w.source in
    let i = c.loop-next.invariant in
    let next = c.loop-next.next in
    let r = c.after-next.result in
    let order = c.after-next.ensures.order in
    let m = member_on s next w.stop r i.whole i.named c.loop-next-test.true c.after-next.ensures.link in
    let shown = tree_at s.line.now (spans_of s.tokens.now) in
    let member : Tree × Tree = (shown next, shown (next + 1)) in
    let ps = c.loop-next.places in
    let noted = rw m.shown_on at i.noted in
    let place : IsPlace w next = record { within = c.loop-next-test.true; whole = i.whole; named = i.named } in
    let code = sym c.first_code.ensures in
    record {
      begun = omega arith;
      whole = whole_later s next r w.stop (omega arith) i.whole;
      named = m.named;
      noted = subst (AreNoted w (members_from w r)) (sym c.note_place.ensures.places)
          (noted_on member (members_from w r) _ noted code i.begun place m.shown_on);
      apart = λ h. elim c.if-not-note_place.branch [
        | then-not-note_place t ↦ absurd (false≢true (sym t.apart-is ∙ h))
        | else-not-note_place t ↦
            i.apart (sym t.apart-is ∙ h) ∙ ap (are_apart (map is_noted ps)) m.shown_on
            ∙ apart_on member (members_from w r) ps _ next noted.count code i.begun
            (sym c.note_place.ensures.free ∙ t.if-not-note_place.false)
            ∙ ap (λ qs. are_apart (map is_noted qs) (members_from w r)) (sym c.note_place.ensures.places)
      ];
    }

pub returns : goal.returns
returns c = grind (arith, common_steps, pairs_of, shown_none)
