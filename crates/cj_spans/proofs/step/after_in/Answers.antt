use Rattle.cj_spans.proofs.Common.{arith, common_steps}
use Rattle.cj_spans.proofs.step.after_in.Goals as goal

pub returns-then-byte-eq93 : goal.returns-then-byte-eq93
returns-then-byte-eq93 c = λ t h.
    let r = c.close.ensures in
    record {
      answer = λ m p.
          rw c.in-Array.is (let e = rw h at (c.close.ensures.answer m p) in grind (arith, common_steps, e));
      tokens =
          r.tokens;
      stack = r.stack;
      err = r.err;
    }

pub returns-then-byte-eq125 : goal.returns-then-byte-eq125
returns-then-byte-eq125 c = λ t h.
    let r = c.close-then-byte-eq125.ensures in
    record {
      answer = λ m p.
          rw c.in-Object.is (let e = rw h at (c.close-then-byte-eq125.ensures.answer m p) in
          grind (arith, common_steps, e));
      tokens = r.tokens;
      stack = r.stack;
      err = r.err;
    }
