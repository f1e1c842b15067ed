use Rattle.cj_decimal.proofs.Common.{arith, rules, slice_range}
use Rattle.cj_decimal.proofs.Readings.{answer_of_few}
use Rattle.cj_decimal.proofs.EightsInLine.{length_slice}
use Rattle.cj_decimal.proofs.decimal.Decimal.read_few_in.Goals as goal

pub returns : goal.returns
returns c = record {
  answer = answer_of_few (slice_range c.args.line.now c.args.start c.args.stop) _ c.read_word.ensures.short;
  small = search rules;
  few =
      let few = c.read_word.ensures.few in
      let l = length_slice c.args.line.now c.args.start c.args.stop c.requires.within in (
        λ some. let all = few.0 some in let near = all.1 in
            ((all.0, omega (arith, l, near)), all.1, all.2),
        λ all. few.1 (all.0.0, all.1, all.2),
      );
}
