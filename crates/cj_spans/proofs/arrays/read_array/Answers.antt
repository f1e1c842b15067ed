use Rattle.cj_spans.proofs.Common.{length, arith}
use Rattle.cj_spans.proofs.WholeNumbers.{stands_on, stands_small, stands_room}
use Rattle.cj_spans.proofs.Leads.{in_small, flat_stands, flat_read, flat_innermost, flat_inside, flat_left, flat_outer, standing_stack, kept_all, kept_more, index_within}
use Rattle.cj_spans.proofs.arrays.read_array.Goals as goal

pub open_array-requires-clause-room : goal.open_array-requires-clause-room
open_array-requires-clause-room c = let r = c.requires in stands_room r.stands r.within r.begins

pub read_numbers-numbers-requires-clause-stands : goal.read_numbers-numbers-requires-clause-stands
read_numbers-numbers-requires-clause-stands c =
    let r = c.requires in
    flat_stands r.stands r.begins r.within r.bracket r.shallow c.open_array.ensures

pub close_token-requires : goal.close_token-requires
close_token-requires c =
    let r = c.requires in
    let n = c.read_numbers-numbers in
    let s = flat_inside r.stands r.begins r.within r.bracket r.shallow c.open_array.ensures n.ensures.leads in
    let a = flat_innermost r.stands r.begins r.within r.bracket r.shallow c.open_array.ensures n.ensures.leads in
    record {
      small = in_small s (n.ensures.ended c.if-numbers.true).within;
      within = rw c.len-index.ensures.value (index_within _ _ _ a);
      list = s.stands.standing.kept.within;
    }

pub leave_arrays-requires-clause-stands : goal.leave_arrays-requires-clause-stands
leave_arrays-requires-clause-stands c =
    let r = c.requires in
    let n = c.read_numbers-numbers in
    let end = n.ensures.ended c.if-numbers.true in
    stands_on r.stands (flat_left r.stands r.begins r.within r.bracket r.shallow c.open_array.ensures n.ensures.leads
    _ c.len-index.ensures.value c.close_token.ensures.closed c.push_and_pop.ensures.peak
    end.after end.within end.bracket c.push_and_pop.ensures.within c.close_token.ensures.tokens)

pub leave_arrays-requires-clause-array : goal.leave_arrays-requires-clause-array
leave_arrays-requires-clause-array c =
    let r = c.requires in
    let n = c.read_numbers-numbers in
    flat_outer r.stands r.begins r.within r.bracket r.shallow c.open_array.ensures n.ensures.leads
    c.close_token.new.tokens c.len-index.ensures.value c.close_token.ensures.closed c.push_and_pop.ensures.peak r.array
    (kept_all _ _ _ (kept_more _ _ c.open_array.ensures.elements) n.ensures.kept)

pub returns-then-numbers-clause-answer : goal.returns-then-numbers-clause-answer
returns-then-numbers-clause-answer c = λ t0 s0 z.
    let r = c.requires in
    let n = c.read_numbers-numbers in
    let end = n.ensures.ended c.if-numbers.true in
    c.leave_arrays.ensures.answer t0 s0 (flat_left r.stands r.begins r.within r.bracket r.shallow c.open_array.ensures
    n.ensures.leads _ c.len-index.ensures.value c.close_token.ensures.closed
    c.push_and_pop.ensures.peak end.after end.within end.bracket c.push_and_pop.ensures.within
    c.close_token.ensures.tokens t0 s0 z)

pub overflow_cast-index : goal.overflow_cast-index
overflow_cast-index c =
    let h = (stands_small c.requires.stands c.requires.within).1 in
    omega arith

pub returns-clause-answer : goal.returns-clause-answer
returns-clause-answer c = λ t0 s0 z.
    let r = c.requires in
    let n = c.read_numbers-numbers in
    let e = rw c.len-index.ensures.value at c.push_reserved.ensures in
    standing_stack _ _ (length _) e
    (flat_read r.stands r.begins r.within r.bracket r.shallow c.open_array.ensures n.ensures.leads t0 s0 z)

pub returns-clause-array : goal.returns-clause-array
returns-clause-array c = λ t.
    let r = c.requires in
    let n = c.read_numbers-numbers in
    let a = flat_innermost r.stands r.begins r.within r.bracket r.shallow c.open_array.ensures n.ensures.leads in
    let e = rw c.len-index.ensures.value at c.push_reserved.ensures in
    (rw e.elements a, n.ensures.begins c.if-numbers.false)
