use Rattle.cj_decimal.proofs.Common.{◌≡◌, ℕ, ◌-◌, List, take, drop, length, Some, Ok, pos, neg_ℤ, ◌-ℤ◌, w64, to_z, of_z, refl, sym, ap, ◌∙◌, subst, arith, rules, false≢true, ints, body, IsShort, IsFewDigits}
use Rattle.std.proofs.lemmas.Grind.{common_steps}
use Rattle.cj_decimal.proofs.Readings.{signed_answer, signed_from_body, body_of_signed}
use Rattle.cj_decimal.proofs.decimal.Decimal.read_few_signed.Goals as goal

-- what is left of a list from a place on
all_left : (s : List ℕ) (from : ℕ) → take (length s - from) (drop from s) ≡ drop from s
all_left s from = grind (arith, common_steps)

module _ (s : List ℕ) (from : ℕ) (is : drop from s ≡ body s) where
  left_is_body : take (length s - from) (drop from s) ≡ body s
  left_is_body = all_left s from ∙ is

  few_of_body : IsFewDigits (take (length s - from) (drop from s)) → IsFewDigits (body s)
  few_of_body few = let P : List ℕ → Type 0 = λ t. IsFewDigits t in subst P left_is_body few

  few_of_left : IsFewDigits (body s) → IsFewDigits (take (length s - from) (drop from s))
  few_of_left few = let P : List ℕ → Type 0 = λ t. IsFewDigits t in subst P (sym left_is_body) few

  short_of_body : {n : ℕ} → IsShort (take (length s - from) (drop from s)) n → IsShort (body s) n
  short_of_body {n} short = let P : List ℕ → Type 0 = λ t. IsShort t n in subst P left_is_body short

pub returns-in_default-clause-few : goal.returns-in_default-clause-few
returns-in_default-clause-few c =
    let s = c.args.spelling.now in (
      λ e. absurd (false≢true e),
      λ few. c.in_default.ensures.few.1 (few_of_left s _ c.after_minus-from.ensures.body (body_of_signed s few)),
    )

pub returns-then-negative : goal.returns-then-negative
returns-then-negative c = record {
  answer =
      λ class.
      let s = c.args.spelling.now in
      let n = c.in-Some.size in
      let short = short_of_body s _ c.after_minus-from.ensures.body c.in-Some.ensures.short in
      let cast : neg_ℤ (pos n) ≡ to_z w64 (of_z w64 (pos 0 -ℤ to_z w64 n)) = omega (arith, ints, short.small) in
      signed_answer class (sym c.if-negative.true ∙ c.has_byte-negative.ensures) short
      ∙ ap (λ z. Ok (Some z)) cast;
  small = search rules;
  few =
      let few = c.in-Some.ensures.few.0 refl in (
        λ _. signed_from_body c.args.spelling.now (few_of_body c.args.spelling.now _ c.after_minus-from.ensures.body
            few),
        λ _. refl,
      );
}

pub returns-else-negative : goal.returns-else-negative
returns-else-negative c = record {
  answer =
      λ class.
      let s = c.args.spelling.now in
      let n = c.in-Some.size in
      let short = short_of_body s _ c.after_minus-from.ensures.body c.in-Some.ensures.short in
      let cast : pos n ≡ to_z w64 n = omega (arith, ints, short.small) in
      signed_answer class (sym c.if-negative.false ∙ c.has_byte-negative.ensures) short
      ∙ ap (λ z. Ok (Some z)) cast;
  small = search rules;
  few =
      let few = c.in-Some.ensures.few.0 refl in (
        λ _. signed_from_body c.args.spelling.now (few_of_body c.args.spelling.now _ c.after_minus-from.ensures.body
            few),
        λ _. refl,
      );
}
