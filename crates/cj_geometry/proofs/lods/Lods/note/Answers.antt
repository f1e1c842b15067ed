use Rattle.cj_geometry.proofs.Common.{ForSome, List, Node, Option, Some, TemplateLod, ap, chars, codes, items_if, member_of, option_and_then, slice_get, source_of, subst, sym, ℕ, ◌%◌, ◌∙◌, ◌≡◌}
use Rattle.cj_geometry.specs.Given.{list_of, given, given_source}
use Rattle.cj_geometry.specs.inner.TemplateLods.{AreAnswersIn, kept_at}
use Rattle.cj_geometry.proofs.Values.{answer-kept, for_some, kept-set}
use Rattle.cj_geometry.proofs.lods.Lods.note.Goals as goal

pub invariant_of-self-clause-answered : goal.invariant_of-self-clause-answered
invariant_of-self-clause-answered c =
    let self = c.args.self.now in
    let trees = items_if (list_of (given self.templates)) in
    let right = c.requires.right
    ∙ ap (λ ts. option_and_then (member_of (chars (codes "lod"))) (slice_get ts c.args.answer.number))
    (ap items_if c.requires.list) in
    let kept = answer-kept trees self.answers (self.oldest % 64) c.args.answer self.answered right in
    subst (AreAnswersIn trees) (sym c.with_answer-self.ensures) kept

pub invariant_of-self-clause-placed : goal.invariant_of-self-clause-placed
invariant_of-self-clause-placed c =
    let self = c.args.self.now in
    let P : Node → Type 0 = λ n. given_source self.templates ≡ Some (source_of n) in
    let Q : List (Option TemplateLod) → Type 0 = λ os. (slot : ℕ) → ForSome (kept_at os slot) P in
    subst Q (sym c.with_answer-self.ensures)
    (kept-set P self.answers (self.oldest % 64) c.args.answer self.placed
    (for_some P c.args.answer.lod c.requires.source))
