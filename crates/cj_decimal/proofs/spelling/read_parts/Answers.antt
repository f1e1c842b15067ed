use Rattle.cj_decimal.proofs.Common.{arith, ap, sym, ◌∙◌, refl, length, rules, ints, is_int, is_frac, is_exp, digits_front, digits_rest, after_frac, written_of, frac_digits, exp_value}
use Rattle.cj_decimal.proofs.Grammar.{carried_at_end}
use Rattle.cj_decimal.proofs.Parts.{stops_whole, not_int, not_frac, not_exp, passed, both_digits, nothing, saturates_at}
use Rattle.cj_decimal.proofs.spelling.read_parts.Goals as goal

pub returns-in_err-int-clause-number : goal.returns-in_err-int-clause-number
returns-in_err-int-clause-number c =
    let s = c.args.spelling.now in
    let at = c.after_minus-from.ensures.body in (
      λ e. absurd (nothing c.from_residual.result c.from_residual.ensures e),
      λ n. absurd (not_int s (sym (ap (λ b. is_int (digits_front b)) at) ∙ c.in_err-int.ensures.reads) n),
    )

pub returns-in_err-frac-clause-number : goal.returns-in_err-frac-clause-number
returns-in_err-frac-clause-number c =
    let s = c.args.spelling.now in
    let at = c.in_ok-int.ensures.reads.1 ∙ ap digits_rest c.after_minus-from.ensures.body in (
      λ e. absurd (nothing c.from_residual-in_err-frac.result c.from_residual-in_err-frac.ensures e),
      λ n. absurd (not_frac s (sym (ap is_frac at) ∙ c.in_err-frac.ensures.reads) n),
    )

pub returns-in_err-exponent-clause-number : goal.returns-in_err-exponent-clause-number
returns-in_err-exponent-clause-number c =
    let s = c.args.spelling.now in
    let at = c.in_ok-int.ensures.reads.1 ∙ ap digits_rest c.after_minus-from.ensures.body in
    let end = c.in_ok-frac.ensures.reads.1 ∙ ap after_frac at in (
      λ e. absurd (nothing c.from_residual-in_err-exponent.result c.from_residual-in_err-exponent.ensures e),
      λ n. absurd (not_exp s (sym (ap is_exp end) ∙ c.in_err-exponent.ensures.reads) n),
    )

pub returns : goal.returns
returns c =
    let s = c.args.spelling.now in
    let from = c.after_minus-from.ensures.body in
    let at = c.in_ok-int.ensures.reads.1 ∙ ap digits_rest from in
    let end = c.in_ok-frac.ensures.reads.1 ∙ ap after_frac at in
    let int = sym (ap (λ b. is_int (digits_front b)) from) ∙ c.in_ok-int.ensures.reads.0 in
    let frac = sym (ap is_frac at) ∙ c.in_ok-frac.ensures.reads.0 in
    let exp = sym (ap is_exp end) ∙ c.in_ok-exponent.ensures.reads.0 in
    record {
      number = (λ _. (written_of s, passed s int frac exp), λ _. refl);
      reads =
          record {
            written = written_of s;
            spells = passed s int frac exp;
            sign = sym c.has_byte-negative.ensures;
            digits = both_digits _ _ _ _ (c.in_ok-frac.ensures.reads.3 _ c.in_ok-int.ensures.reads.2)
                (ap digits_front from) (ap frac_digits at);
            after_point_is = sym (ap (λ r. length (frac_digits r)) at) ∙ c.in_ok-frac.ensures.reads.2;
            exponent_is = saturates_at c.in_ok-exponent.ensures.reads.1 (ap exp_value end)
                (omega (arith, ints, c.in_ok-exponent.ensures.bound));
          };
    }

pub integer_parts-requires : goal.integer_parts-requires
integer_parts-requires c = record {
  sign = search rules;
  body = search rules;
  stops = stops_whole _ _ _ c.read_short-short.ensures.passes c.if-at-spelling.true;
  value = carried_at_end _ _ _ _ _ c.read_short-short.ensures.carries (omega arith);
  short = search rules;
}
