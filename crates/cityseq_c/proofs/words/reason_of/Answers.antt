use Rattle.cityseq_c.proofs.Common.{Bool, List, Option, Reason, add-one, code_of, drop, false, get_or, length, reason_in, true, ℕ, ◌+◌, ◌<◌, ◌∙◌, ◌≡◌, arith}
use Rattle.std.proofs.Common.{nat_eq, drop-cons, eqb-true}
use Rattle.cityseq_c.proofs.words.reason_of.Goals as goal

not-true : (x : Bool) → ¬ (x ≡ true) → x ≡ false
not-true x h = grind arith

-- a reason of another code is passed
passed : (code i k : ℕ) (xs : List Reason) (d : Reason) (r : Option Reason) → i < length xs
    → k ≡ code_of (get_or xs i d) → ¬ (k ≡ code) → reason_in code (drop i xs) ≡ r
    → reason_in code (drop (i + 1) xs) ≡ r
passed code i k xs d r within is other so_far =
    let here = drop-cons xs i d within in
    let differs : nat_eq (code_of (get_or xs i d)) code ≡ false =
    not-true _ (λ same. other (is ∙ eqb-true (code_of (get_or xs i d)) code same)) in
    let z = rw here at so_far in
    rw add-one (rw differs at z)

pub loop-reason-preserved : goal.loop-reason-preserved
loop-reason-preserved c =
    passed c.args.code c.loop-reason.reason-index c.code.result c.all_reasons-reason-items.result _ _
    (rw c.all_reasons-reason-items.ensures c.loop-reason-test.true) c.code.ensures c.if-code.false
    c.loop-reason.invariant
