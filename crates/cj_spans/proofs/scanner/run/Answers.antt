use Rattle.cj_spans.proofs.Common.{arith, rules, suc, subst, sym, InArray, InObject}
use Rattle.cj_spans.proofs.Standing.{standing_first, standing_small, standing_room, standing_step, standing_law, standing_fault, stepped_small, stepped_room, stepped_on, stepped_law, stepped_fault, ended_law, ended_fault, not_so}
use Rattle.cj_spans.proofs.Signs.{array_next, object_next, values_next, names_next}
use Rattle.cj_spans.proofs.scanner.run.Goals as goal

pub loop-place-init : goal.loop-place-init
loop-place-init c = search (rules, standing_first)

pub read_byte-requires : goal.read_byte-requires
read_byte-requires c =
    let s = c.loop-place.invariant in
    record {
      small = standing_small s c.requires.short c.loop-place-test.true;
      lists = (s.kept.within, s.stack_within);
      room = standing_room s c.requires.room c.loop-place-test.true;
      reserved = (s.kept.room c.requires.reserved.0, s.stack_room c.requires.reserved.1);
    }

pub returns-in-Err : goal.returns-in-Err
returns-in-Err c =
    let s = c.loop-place.invariant in
    let e = c.in-Err.ensures in
    record {
      answer = standing_fault s (Unit {0}) _ _ c.loop-place-test.true e.answer
          e.err.1;
      law = standing_law s e.tokens e.stack e.err.0 e.err.1;
    }

pub follow-requires : goal.follow-requires
follow-requires c =
    let e = c.in-Ok.ensures in
    let t = c.loop-place-test.true in
    let s = standing_step c.loop-place.invariant _ t e.tokens e.stack e.answer in
    let q = stepped_small s c.requires.short t in
    record {
      small = (omega arith, q.1);
      within = t;
      lists = e.tokens.kept.within;
      room = stepped_room s c.requires.room t;
      reserved = e.tokens.kept.room (c.loop-place.invariant.kept.room c.requires.reserved.0);
    }

pub returns-in-Err-follow : goal.returns-in-Err-follow
returns-in-Err-follow c =
    let e = c.in-Ok.ensures in
    let f = c.in-Err-follow in
    let s = standing_step c.loop-place.invariant _ c.loop-place-test.true e.tokens e.stack e.answer in
    record {
      answer = stepped_fault s (Unit {0}) _ f.fault
          (f.ensures.answer _);
      law = stepped_law s c.loop-place-test.true f.ensures.tokens f.ensures.err;
    }

pub pass_parts-requires : goal.pass_parts-requires
pass_parts-requires c =
    let e = c.in-Ok.ensures in
    let f = c.in-Ok-follow.ensures in
    let l = c.loop-place in
    let new = c.read_byte.new in
    record {
      within = c.loop-place-test.true;
      stands = record {
        tokens0 = c.args.tokens.now;
        stack0 = c.args.stack.now;
        standing = stepped_on (standing_step l.invariant _ c.loop-place-test.true e.tokens e.stack
            e.answer) _ f.tokens (f.answer new.stack.elements);
        room = search rules;
      };
      array = λ h.
          let q = f.signs (values_next _ _ h) in
          let a = array_next l.stack.elements new.stack.elements l.tokens.elements new.tokens.elements l.place 0
          (suc l.place) _ l.mode _ _ h (e.answer 0) in
          (subst (λ t. InArray new.stack.elements t.elements) (sym q.0) a, q.1);
      object = λ h.
          let q = f.names (names_next _ _ h) in
          let o = object_next l.stack.elements new.stack.elements l.tokens.elements new.tokens.elements l.place 0
          (suc l.place) _ l.mode _ _ h (e.answer 0) in
          subst (λ t. InObject new.stack.elements t.elements) (sym q) o;
    }

pub loop-place-smaller : goal.loop-place-smaller
loop-place-smaller c =
    let a = c.in-Ok-follow.ensures.answer c.read_byte.new.stack.elements 0 in
    let g = a.1 in let o = c.in-Ok-pass_parts.ensures.order in let t = c.loop-place-test.true in
    omega arith

pub loop-place-preserved : goal.loop-place-preserved
loop-place-preserved c =
    let e = c.in-Ok.ensures in
    let f = c.in-Ok-follow.ensures in
    let s = stepped_on (standing_step c.loop-place.invariant _ c.loop-place-test.true e.tokens e.stack
    e.answer) _ f.tokens (f.answer _) in
    c.in-Ok-pass_parts.ensures.answer _ _ s

pub returns-in-Err-pass_parts : goal.returns-in-Err-pass_parts
returns-in-Err-pass_parts c =
    let e = c.in-Ok.ensures in
    let f = c.in-Ok-follow.ensures in
    let s = stepped_on (standing_step c.loop-place.invariant _ c.loop-place-test.true e.tokens e.stack
    e.answer) _ f.tokens (f.answer _) in
    let r = c.in-Err-pass_parts.ensures.answer _ _ s in
    record { answer = r.0; law = r.1 }

pub returns-then-is_end-clause-law : goal.returns-then-is_end-clause-law
returns-then-is_end-clause-law c = ended_law c.loop-place.invariant

pub returns-else-is_end : goal.returns-else-is_end
returns-else-is_end c = record {
  answer = ended_fault c.loop-place.invariant c.loop-place-test.false (not_so _ c.is_end.ensures c.if-is_end.false);
  law = ended_law c.loop-place.invariant;
}
