use Rattle.cj_feature.proofs.Common.{arith, line_of, same_text, source_of, spans_by, sym, tokens_in, tree, tree_at, ◌-◌, ◌∙◌}
use Rattle.cj_spans.proofs.Noted.{found_at-number}
use Rattle.cj_spans.proofs.Scanned.{length-spans_of}
use Rattle.cj_feature.proofs.feature.search.near.Near.note_one.Goals as goal

pub returns-then-not-marked-clause-pending : goal.returns-then-not-marked-clause-pending
returns-then-not-marked-clause-pending g c = λ f reaches waits.
    let o = c.args.objects in
    let n = c.in-Ready.number in
    let line = line_of o in
    let spans = spans_by o in
    let same_length = length-spans_of (tokens_in (source_of o)) in
    let ready = rw c.in-Ready.is at c.held.ensures in
    let named = c.requires.known c.args.place n c.slot.result c.slot.ensures ready in
    let shown = c.at.ensures.tree ∙ found_at-number o (n - 1) (omega (arith, named.0, same_length)) in
    let same = rw shown at (sym c.same_text.ensures.test ∙ c.if-not-same_text.false) in
    c.add.ensures f line spans named.0 (reaches (tree_at line spans (n - 1)) (tree_at line spans n) named.1 same) waits
