use Rattle.cj_spans.proofs.Common.{◌≡◌, ℕ, ◌+◌, ◌^◌, ◌/◌, ◌⊎◌, inl, inr, subst, arith, w64, AreMarked, ReadsNumbers, rules}
use Rattle.std.specs.Int.{trailing_zeros}
use Rattle.cj_spans.proofs.WholeNumbers.{first_mark, block_number}
use Rattle.cj_spans.proofs.Leads.{reads_on, stands_leads}
use Rattle.cj_spans.proofs.arrays.read_block.Goals as goal

stands_alone : (x y : ℕ) → ((x ≡ 48) × (y ≡ 1)) ⊎ (x ≡ 48 → ⊥) → x ≡ 48 → y ≡ 1
stands_alone x y (inl h) e = h.1
stands_alone x y (inr h) e = absurd (h e)

pub keep_number-numbers-requires-clause-number : goal.keep_number-numbers-requires-clause-number
keep_number-numbers-requires-clause-number c =
    let l = c.loop-others in
    let m = first_mark l.invariant.marked (omega arith) l.auto.others-fits.fits in
    block_number m c.if-digits-eq0.false (stands_alone _ _ c.if-digits-ne1.either)

pub returns-then-numbers : goal.returns-then-numbers
returns-then-numbers c = search (rules, reads_on)

pub overflow_shr-others : goal.overflow_shr-others
overflow_shr-others c =
    let l = c.loop-others in
    let m = first_mark l.invariant.marked (omega arith) l.auto.others-fits.fits in
    omega arith

passed : {p q : ℕ} (r : ℕ) → (p ≡ q) ⊎ (p ≡ r) → (p ≡ q → ⊥) → p ≡ r
passed r (inl h) n = absurd (n h)
passed r (inr h) n = h

pub loop-others-preserved : goal.loop-others-preserved
loop-others-preserved c =
    let l = c.loop-others in
    let b = c.args.line.now in
    let n = c.keep_number-numbers in
    let us = n.new.tokens in
    let m = first_mark l.invariant.marked (omega arith) l.auto.others-fits.fits in
    let e = passed _ (n.ensures.comma c.if-numbers.false) c.if-numbers-next.false in
    let more = subst (λ f. ReadsNumbers b l.tokens l.next us (record { next = n.result.next; ended = f }))
    c.if-numbers.false n.ensures.reads in
    record {
      stands = stands_leads l.invariant.stands n.ensures.reads.leads;
      reads = reads_on l.invariant.reads more;
      begins = n.ensures.reads.begins c.if-numbers.false;
      marked =
          let q : l.next.place + (trailing_zeros w64 l.others + 1) ≡ n.result.next.place = omega (arith, e) in
          subst (λ k. AreMarked b k (l.others / 2 ^ (trailing_zeros w64 l.others + 1))) q m.rest;
    }
