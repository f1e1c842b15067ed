use Rattle.cj_geometry.proofs.Common.{ForSome, Node, Option, Some, ap, chars, codes, items_if, member_of, option_and_then, slice_get, source_of, subst, sym, ◌∙◌, ◌≡◌}
use Rattle.cj_geometry.specs.Given.{list_of, given, given_source}
use Rattle.cj_geometry.proofs.Values.{answer-right, if_some, kept-found}
use Rattle.cj_geometry.proofs.lods.Lods.lod_at.Goals as goal

pub returns-in-Some-clause-lod : goal.returns-in-Some-clause-lod
returns-in-Some-clause-lod c =
    let self = c.args.self.now in
    let trees = items_if (list_of (given self.templates)) in
    let kept = c.in-Some.ensures.kept in
    answer-right trees self.answers kept.0 c.in-Some.answer self.answered kept.1
    ∙ ap (λ n. option_and_then (member_of (chars (codes "lod"))) (slice_get trees n)) c.in-Some.ensures.number
    ∙ ap (λ ts. option_and_then (member_of (chars (codes "lod"))) (slice_get ts c.args.number))
    (sym (ap items_if c.requires.list))

pub returns-in-Some-clause-source : goal.returns-in-Some-clause-source
returns-in-Some-clause-source c =
    let self = c.args.self.now in
    let P : Node → Type 0 = λ n. given_source self.templates ≡ Some (source_of n) in
    let kept = c.in-Some.ensures.kept in
    let Q : Option Node → Type 0 = λ o. ForSome o P in
    if_some P c.in-Some.answer.lod
    (subst Q (kept-found self.answers kept.0 c.in-Some.answer kept.1) (self.placed kept.0))
