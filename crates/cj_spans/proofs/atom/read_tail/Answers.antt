use Rattle.cj_spans.proofs.Atoms.{goes_far, goes_same, reads_far}
use Rattle.cj_spans.proofs.atom.read_tail.Goals as goal

pub returns : goal.returns
returns c =
    let s = c.skip_digits-stop.ensures in
    let g = c.begins_fraction.ensures c.if-not-begins_fraction.false c.args.digits c.requires.point in
    reads_far (goes_far g (goes_same s.same s.order s.end)) c.read_on-2.ensures
