use Rattle.cj_spans.proofs.Common.{arith, refl, rules}
use Rattle.cj_spans.proofs.WholeNumbers.{stands_on, stands_small, stands_room, opens_array, standing_opened, opened_in, standing_refused}
use Rattle.cj_spans.proofs.arrays.enter_arrays.Goals as goal

pub open-requires : goal.open-requires
open-requires c =
    let l = c.loop-tokens.invariant in
    record {
      small = stands_small l.stands l.comes.within;
      lists = search rules;
      room = stands_room l.stands l.comes.within l.comes.begins;
      reserved = search rules;
    }

pub returns-in-Err-clause-answer : goal.returns-in-Err-clause-answer
returns-in-Err-clause-answer c = λ ts ks s.
    let l = c.loop-tokens in
    let n = l.invariant.comes in
    standing_refused opens_array c.in-Err.ensures n.begins n.within n.bracket (l.invariant.answer ts ks s)

pub loop-tokens-preserved : goal.loop-tokens-preserved
loop-tokens-preserved c =
    let l = c.loop-tokens in
    let n = l.invariant.comes in
    let order = l.invariant.order in
    let more = c.loop-tokens-test.ensures refl in
    let go = standing_opened opens_array _ l.next.mode c.in-Ok.ensures n.begins n.within n.bracket in
    record {
      stands = stands_on l.invariant.stands go;
      answer = λ ts ks s. go ts ks (l.invariant.answer ts ks s);
      comes = record {
        array = opened_in opens_array c.in-Ok.ensures;
        begins = tt;
        within = more.0;
        bracket = more.1;
      };
      order = omega arith;
    }
