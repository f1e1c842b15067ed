use Rattle.cj_decimal.proofs.Common.{◌≡◌, Some, sym, ◌∙◌, arith, slice_range, digits_value}
use Rattle.cj_decimal.proofs.Below.{all_below}
use Rattle.cj_decimal.proofs.Classes.{class}
use Rattle.cj_decimal.proofs.EightsInLine.{length_slice}
use Rattle.cj_decimal.proofs.Readings.{few_short, answer_digits, answer_of_few, int_alone_read}
use Rattle.cj_decimal.proofs.decimal.Decimal.is_few_below_in.Goals as goal

pub returns : goal.returns
returns c = record {
  few =
      λ holds.
      let s = slice_range c.args.line.now c.args.start c.args.stop in
      let short = (c.is_below.ensures.short holds 4294967296 (all_below 4294967296 c.args.word (omega arith))).2 in
      let l = length_slice c.args.line.now c.args.start c.args.stop c.requires.within in
      let near = c.is_below.ensures.near holds in
      (int_alone_read s short.int short.rest, omega arith);
  below =
      λ holds n is_bound.
      let r = c.is_below.ensures.short holds n is_bound in
      let short = r.2 in
      (r.0, r.1, short.small, answer_of_few (slice_range c.args.line.now c.args.start c.args.stop) (Some r.0) short);
  all =
      λ few near room n m count less answer.
      let s = slice_range c.args.line.now c.args.start c.args.stop in
      let same = sym (answer (class s)) ∙ answer_digits s (digits_value s) (class s) (few_short s few) in
      let value : m ≡ digits_value s = cc in
      c.is_below.ensures.all few.0 near room n count (omega arith);
}
