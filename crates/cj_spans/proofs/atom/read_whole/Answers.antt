use Rattle.cj_spans.proofs.Common.{rules}
use Rattle.cj_spans.proofs.Atoms.{goes_same, reads_far}
use Rattle.cj_spans.proofs.atom.read_whole.Goals as goal

pub returns : goal.returns
returns c = search (rules, reads_far, goes_same)
