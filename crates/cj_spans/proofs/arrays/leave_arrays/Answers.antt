use Rattle.cj_spans.proofs.Common.{◌≡◌, ℕ, List, ◌+◌, arith, refl, inl, inr, subst, sym, ◌∙◌, BoundedList, Token, After, Next, byte, MayCloseArray, EndsItems, Standing}
use Rattle.cj_spans.proofs.WholeNumbers.{stands_on, stands_small, standing_closed, standing_comma}
use Rattle.cj_spans.proofs.arrays.leave_arrays.Goals as goal

may_close : (b : List ℕ) (n : Next) → EndsItems b n → MayCloseArray n.mode
may_close b n (inl e) = subst MayCloseArray (sym e) tt
may_close b n (inr e) = subst MayCloseArray (sym e.0) tt

-- a comma comes after a value alone
after_comma : (b : List ℕ) (n : Next) → EndsItems b n → byte b n.place ≡ 44 → n.mode ≡ After
after_comma b n (inl e) c = e
after_comma b n (inr e) c = let f = sym c ∙ e.1 in absurd (omega arith)

pub close_array-outer-requires-clause-small : goal.close_array-outer-requires-clause-small
close_array-outer-requires-clause-small c =
    stands_small c.loop-tokens.invariant.stands (c.loop-tokens-test.ensures refl).0

pub returns-then-not-is_open_array-clause-answer : goal.returns-then-not-is_open_array-clause-answer
returns-then-not-is_open_array-clause-answer c = λ ts ks s.
    let l = c.loop-tokens in
    let a = c.close_array-outer in
    let h = c.loop-tokens-test.ensures refl in
    rw c.outside_arrays.ensures (standing_closed (l.invariant.answer ts ks s) h.0 h.1 a.ensures.tokens a.ensures.stack
    (a.ensures.closed l.next.mode (may_close _ l.next l.invariant.ends)))

pub loop-tokens-preserved : goal.loop-tokens-preserved
loop-tokens-preserved c =
    let l = c.loop-tokens in
    let a = c.close_array-outer in
    let h = c.loop-tokens-test.ensures refl in
    let b = c.args.line.now in
    let order = l.invariant.order in
    let go : (ts : BoundedList Token) (ks : BoundedList ℕ)
    → Standing b ts ks l.tokens l.stack l.next.mode l.next.place
    → Standing b ts ks a.new.tokens a.new.stack After (l.next.place + 1) = λ ts ks s. standing_closed s h.0 h.1
    a.ensures.tokens a.ensures.stack (a.ensures.closed l.next.mode (may_close b l.next l.invariant.ends)) in
    record {
      stands = stands_on l.invariant.stands go;
      answer = λ ts ks s. go ts ks (l.invariant.answer ts ks s);
      array = c.if-not-is_open_array.ensures refl a.new.stack.elements a.ensures.outer;
      ends = inl refl;
      order = omega arith;
    }

pub returns-clause-answer : goal.returns-clause-answer
returns-clause-answer c = λ ts ks s.
    let l = c.loop-tokens in
    let b = c.args.line.now in
    let h = c.if-not-stands_at.ensures refl in
    standing_comma l.next.place
    (subst (λ m. Standing b ts ks l.tokens l.stack m l.next.place) (after_comma b l.next l.invariant.ends h.1)
    (l.invariant.answer ts ks s)) h.0 h.1 l.invariant.array
