use Rattle.std.proofs.Common.{◌≡◌, ℕ, ◌+◌, ◌-◌, ◌≤◌, List, [], ◌∷◌, length, take, drop, reverse, get_or, refl, ap, sym, subst, arith, ◌∙◌}
use Rattle.std.proofs.lemmas.List.{reverse-append, length-reverse, length-take-le, take_more}
use Rattle.cj_budget.specs.Bounded.{Becomes}
use Rattle.cj_budget.specs.contracts.stack.Stack.{the_view}
use Rattle.cj_budget.proofs.stack.Stack.pop.Goals as goal

-- below the last of the first n items are those before it
below_top : (xs : List ℕ) (m n : ℕ) → n ≡ m + 1 → n ≤ length xs → drop 1 (reverse (take n xs)) ≡ reverse (take m xs)
below_top xs m n e l =
    subst (λ k. drop 1 (reverse (take k xs)) ≡ reverse (take m xs)) (sym e)
    (ap (λ ys. drop 1 (reverse ys)) (take_more xs m 0 (omega arith))
    ∙ ap (drop 1) (reverse-append (take m xs) (get_or xs m 0 ∷ [])))

pub returns-clause-rest : goal.returns-clause-rest
returns-clause-rest c =
    let n = c.self.inside.count in let xs = c.self.inside.places.items in
    let i = c.self.invariant in let some = c.if-self-eq0.false in
    let e = below_top xs (n - 1) n (omega arith) (omega arith) in
    let here = length-reverse (take (n - 1) xs) ∙ length-take-le (n - 1) xs (omega arith) in
    let below = ap length e ∙ here in
    subst (λ o. Becomes o (drop 1 o.elements) (the_view (record c.self.inside { count = n - 1 }))) c.self.view_is
    (record {
      elements = sym e;
      limit = refl;
      peak = omega arith;
      room = λ r. r;
      failed_growths = refl;
      within = record { below_peak = omega arith; below_limit = omega arith };
    })
