use Rattle.cj_spans.proofs.Common.{◌≡◌, Bool, true, false, not, refl, arith}
use Rattle.std.specs.Prelude.{IsTrue}
use Rattle.cj_spans.proofs.WholeNumbers.{stands_on}
use Rattle.cj_spans.proofs.arrays.read_arrays.Goals as goal

pub returns-in-Err-clause-answer : goal.returns-in-Err-clause-answer
returns-in-Err-clause-answer c = λ ts ks s.
    c.in-Err.ensures.answer ts ks (c.loop-next.invariant.answer ts ks s)

set : (x : Bool) → not x ≡ false → IsTrue x
set true h = refl
set false h = cc

pub loop-next-preserved : goal.loop-next-preserved
loop-next-preserved c =
    let l = c.loop-next in
    let e = c.in-Ok.ensures in
    let inside = e.array (set _ c.if-not-inner.false) in
    let order = l.invariant.order in let more = e.order in
    record {
      stands = stands_on l.invariant.stands e.answer;
      answer = λ ts ks s. e.answer ts ks (l.invariant.answer ts ks s);
      array = inside.0;
      begins = inside.1;
      order = omega arith;
    }
