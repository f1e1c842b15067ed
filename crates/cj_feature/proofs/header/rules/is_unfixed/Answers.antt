use Rattle.cj_feature.proofs.Common.{ap, is_number, kind_of, line_of, sym, tree, true, ◌∙◌, ◌≡◌}
use Rattle.cj_feature.proofs.Rules.{test-decides, fixed-read, fixed-unread, by-answer}
use Rattle.cj_feature.proofs.header.rules.is_unfixed.Goals as goal

pub returns-in-Ok : goal.returns-in-Ok
returns-in-Ok c =
    let n = c.args.node in
    let kind : is_number (kind_of (tree c.args.node)) ≡ true = ap is_number (sym c.kind.ensures ∙ c.in-Number.is) in
    let value = rw c.bytes.ensures.spelling at c.in-Ok.ensures.value in
    let decided = test-decides c.in-Ok.number c.in-Ok.ensures.value.normal c.fixed18.result c.fixed18.ensures.fixed in
    fixed-read (line_of n) (tree n) kind c.in-Ok.number value c.in-Ok.ensures.in_range
    ∙ by-answer (tree n) c.in-Ok.number c.is_none.result (decided ∙ c.is_none.ensures)

pub returns-in-Err : goal.returns-in-Err
returns-in-Err c =
    let n = c.args.node in
    let kind : is_number (kind_of (tree c.args.node)) ≡ true = ap is_number (sym c.kind.ensures ∙ c.in-Number.is) in
    fixed-unread (line_of n) (tree n) kind (λ inside. let there = rw (sym c.bytes.ensures.spelling) at inside in
    absurd (cc (c.in-Err.ensures.ok.1 there)))
