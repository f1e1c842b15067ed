use Rattle.cj_decimal.proofs.Common.{◌≡◌, ◌-◌, ◌∙◌, ℕ, List, ap, refl, subst, sym, arith, false≢true, slice_range, bit_and, bit_xor, AllDigits, IsInt, IsNumberIfBegun, digits_value}
use Rattle.cj_decimal.specs.Word.{IsWordOf}
use Rattle.cj_decimal.proofs.Grammar.{int_digits}
use Rattle.cj_decimal.proofs.Below.{word_of_eight}
use Rattle.cj_decimal.proofs.Eights.{eight_at_end, digits_pass}
use Rattle.cj_decimal.proofs.EightsInLine.{all_from_eight, bytes_below, length_slice, end_of_eight, number_int}
use Rattle.cj_decimal.proofs.word.read_digits_word.Goals.{After-swap_bytes}
use Rattle.cj_decimal.proofs.word.read_digits_word.Goals as goal

read : (c : After-swap_bytes) → IsInt (slice_range c.args.line.now c.args.start c.args.stop)
    × IsWordOf c.swap_bytes.result (digits_value (slice_range c.args.line.now c.args.start c.args.stop))
read c =
    let line = c.args.line.now in let start = c.args.start in let stop = c.args.stop in
    let count = stop - start in
    let x = bit_xor c.word_before.result 0x3030303030303030 in
    let s = slice_range line (stop - 8) stop in
    let few = c.if-count-gt-BYTES.false in let room = c.if-stop-lt-BYTES.false in
    let back : stop - count ≡ start = omega arith in
    let end = end_of_eight line count stop few room ∙ ap (λ k. slice_range line k stop) back in
    let length_is = length_slice line (stop - 8) stop c.requires.within in
    let at = eight_at_end (8 - count) s (bit_and x c.last_bytes.result) (omega arith)
    (length_is ∙ omega arith) (bytes_below line (stop - 8) stop (λ k. (c.type_inv.line k).fits)) c.word_before.ensures
    (ap (bit_and x) c.last_bytes.ensures) (omega arith) (λ t l h is. (c.are_low.ensures t l h is).0 c.if-are_low.true)
    (subst IsNumberIfBegun (sym end) c.requires.number) in
    let eight = at.2 in
    let P : ℕ → Type 0 = λ w. IsWordOf w (digits_value (slice_range line start stop)) in
    let Q : List ℕ → Type 0 = λ t. IsInt t in (
      subst Q end (number_int _ at.0 at.1),
      subst P (sym c.swap_bytes.ensures)
          (word_of_eight eight.0 eight.1 eight.2 eight.3 (eight.4 ∙ ap digits_value end)),
    )

pub returns-then-are_low : goal.returns-then-are_low
returns-then-are_low c = record {
  word = (read c).1;
  few =
      (λ some. ((read c).0, omega arith, c.if-stop-lt-BYTES.false), λ int. refl);
}

pub returns-else-are_low-clause-few : goal.returns-else-are_low-clause-few
returns-else-are_low-clause-few c = (
  λ e. absurd (false≢true e),
  λ int.
      let line = c.args.line.now in let start = c.args.start in let stop = c.args.stop in
      let count = stop - start in
      let x = bit_xor c.word_before.result 0x3030303030303030 in
      let few = c.if-count-gt-BYTES.false in let room = c.if-stop-lt-BYTES.false in
      let back : start ≡ stop - count = omega arith in
      let P : ℕ → Type 0 = λ k. AllDigits (slice_range line k stop) in
      let length_is = length_slice line (stop - 8) stop c.requires.within in
      let passed = digits_pass (8 - count) (slice_range line (stop - 8) stop)
      (bit_and x c.last_bytes.result) (omega arith) (length_is ∙ omega arith)
      (bytes_below line (stop - 8) stop (λ k. (c.type_inv.line k).fits)) c.word_before.ensures
      (ap (bit_and x) c.last_bytes.ensures) c.are_low.result (λ t l h is low. (c.are_low.ensures t l h is).1 low)
      (all_from_eight line count stop few room (subst P back (int_digits _ int.0))) in
      sym c.if-are_low.false ∙ passed,
)
