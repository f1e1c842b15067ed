use Rattle.cj_decimal.proofs.Common.{ℕ, ◌≡◌, ◌+◌, ◌*◌, ◌^◌, ◌<◌, ◌≤◌, length, get_or, refl, sym, ◌∙◌, arith, drop_all, false≢true}
use Rattle.cj_decimal.proofs.Values.{ten_pow_suc, ten_pow_le}
use Rattle.cj_decimal.proofs.Grammar.{passes_step, carries_step, digit_bounds, stops_at_end, carried_at_end}
use Rattle.cj_decimal.proofs.Parts.{stops_whole}
use Rattle.cj_decimal.proofs.Readings.{int_alone_reads, int_alone_read, no_int_past_other}
use Rattle.cj_decimal.proofs.whole.read_counted.Goals as goal

-- so many digits spell less than that power
few : (n i : ℕ) → n < 10 ^ i → i ≤ 18 → n < 10 ^ 18
few n i below h = omega (arith, ten_pow_le i 18 h)

more : (n d i : ℕ) → n < 10 ^ i → d ≤ 9 → 10 * n + d < 10 ^ (i + 1)
more n d i below h = omega (arith, ten_pow_suc i)

pub returns-then-not-is_ascii_digit-clause-int : goal.returns-then-not-is_ascii_digit-clause-int
returns-then-not-is_ascii_digit-clause-int c =
    let other = sym c.is_ascii_digit.ensures.value ∙ c.if-not-is_ascii_digit.true in
    let none = no_int_past_other c.args.digits.now c.loop-at.at c.loop-at.invariant.passes
    (omega (arith, c.loop-at-test.true, c.requires.all)) other in
    (λ e. absurd (false≢true e), λ int. absurd (none int))

pub overflow_mul-value : goal.overflow_mul-value
overflow_mul-value c =
    let small =
    few c.loop-at.value c.loop-at.at c.loop-at.invariant.short
    (omega (arith, c.loop-at-test.true, c.requires.few)) in
    omega (arith, small)

pub overflow_add-value : goal.overflow_add-value
overflow_add-value c =
    let small =
    few c.loop-at.value c.loop-at.at c.loop-at.invariant.short
    (omega (arith, c.loop-at-test.true, c.requires.few)) in
    let digit = sym c.is_ascii_digit.ensures.value ∙ c.if-not-is_ascii_digit.false in
    omega (arith, small, digit_bounds (get_or c.args.digits.now c.loop-at.at 0) digit)

pub loop-at-preserved : goal.loop-at-preserved
loop-at-preserved c =
    let digit = sym c.is_ascii_digit.ensures.value ∙ c.if-not-is_ascii_digit.false in
    let here : c.loop-at.at < length c.args.digits.now = omega (arith, c.loop-at-test.true, c.requires.all) in
    record {
      passes = passes_step _ _ _ c.loop-at.invariant.passes here digit;
      carries = carries_step _ _ _ _ _ c.loop-at.invariant.carries here digit;
      short = more _ _ _ c.loop-at.invariant.short
          (omega (arith, digit_bounds (get_or c.args.digits.now c.loop-at.at 0) digit));
      within = omega (arith, c.loop-at-test.true);
    }

pub is_int_part-requires : goal.is_int_part-requires
is_int_part-requires c =
    let end : c.loop-at.at ≡ length c.args.digits.now =
    omega (arith, c.loop-at-test.false, c.loop-at.invariant.within, c.requires.all) in
    rw c.requires.all (stops_whole _ _ _ c.loop-at.invariant.passes end)

pub returns-then-is_int_part : goal.returns-then-is_int_part
returns-then-is_int_part c =
    let s = c.args.digits.now in
    let end : length s ≤ c.loop-at.at = omega (arith, c.loop-at-test.false, c.requires.all) in
    record {
      short =
          record {
            int = sym c.is_int_part.ensures ∙ c.if-is_int_part.true;
            rest = sym (stops_at_end s 0 c.loop-at.at c.loop-at.invariant.passes end).rest ∙ drop_all _ s end;
            value = carried_at_end _ _ _ _ _ c.loop-at.invariant.carries end;
            small = few _ _ c.loop-at.invariant.short (omega (arith, c.loop-at.invariant.within, c.requires.few));
          };
      int =
          let rest = sym (stops_at_end s 0 c.loop-at.at c.loop-at.invariant.passes end).rest ∙ drop_all _ s end in
          (λ _. int_alone_read s (sym c.is_int_part.ensures ∙ c.if-is_int_part.true) rest, λ _. refl);
    }

pub returns-else-is_int_part-clause-int : goal.returns-else-is_int_part-clause-int
returns-else-is_int_part-clause-int c =
    let other = sym c.is_int_part.ensures ∙ c.if-is_int_part.false in
    (λ e. absurd (false≢true e), λ int. absurd (false≢true (sym other ∙ (int_alone_reads c.args.digits.now int).0)))
