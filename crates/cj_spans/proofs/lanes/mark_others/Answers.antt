use Rattle.cj_spans.proofs.Common.{◌≡◌, ◌+◌, ◌-◌, ◌^◌, ◌/◌, ◌≤◌, length, subst, arith, AreMarkedTo}
use Rattle.cj_spans.proofs.WholeNumbers.{later}
use Rattle.cj_spans.proofs.lanes.mark_others.Goals as goal

pub returns : goal.returns
returns c =
    let b = c.args.line.now in
    let s = 32 - (length b - c.args.place) in
    let i = length b - 32 in
    let r = c.requires in
    let long = c.if-line-lt-NUMBERS.false in
    let few = c.if-room-ge-NUMBERS.false in
    let m = c.mark_block-2.result in
    let e : i + s ≡ c.args.place = omega arith in
    let a = c.mark_block-2.ensures in
    let order : i + s ≤ i + 32 = omega arith in
    record {
      stop = i + 32;
      marked = subst (λ n. AreMarkedTo b n (i + 32) (m / 2 ^ s)) e (later s a order);
    }
