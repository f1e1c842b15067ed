use Rattle.cj_feature.proofs.Common.{line_of, sym, tree}
use Rattle.cj_feature.proofs.Rules.{read-in-range, read-value}
use Rattle.cj_feature.proofs.header.reading.read_number.Goals as goal

pub unreachable-requires : goal.unreachable-requires
unreachable-requires c =
    let n = c.args.node in
    let inside = rw (sym c.bytes.ensures.spelling) at (read-in-range (line_of n) (tree n) c.requires) in
    absurd (cc (c.in-Err.ensures.ok.1 inside))

pub returns : goal.returns
returns c =
    let n = c.args.node in
    let value = rw c.bytes.ensures.spelling at c.in-Ok.ensures.value in
    read-value (line_of n) (tree n) c.requires c.in-Ok.decimal value c.in-Ok.ensures.in_range
