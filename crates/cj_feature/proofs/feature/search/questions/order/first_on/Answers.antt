use Rattle.cj_feature.proofs.Common.{Some, ap, false, from_in, same_text, subst, sym, short_hash_of, text_of, tree, ◌∙◌, ◌≡◌}
use Rattle.cj_feature.proofs.Questions.{none_here, only_here, place_by_texts}
use Rattle.cj_feature.proofs.feature.search.questions.order.first_on.Goals as goal

pub returns-in-Some : goal.returns-in-Some
returns-in-Some c =
    let t = tree c.args.from.node in
    let place =
    place_by_texts c.args.objects c.args.questions.now c.place_of-place.result c.args.from c.of-to.result
    c.of-to.ensures c.place_of-place.ensures in
    record {
      first = record {
        place = place;
        question = c.in-Some.question;
        stands = c.in-Some.ensures;
        hashed = c.is.ensures.short_hash c.if-is.true ∙ c.args.from.hashed;
        same = c.is.ensures.text c.if-is.true;
      };
      only = λ i f. ap (λ z. Some z)
          (sym (only_here c.args.objects c.args.questions.now t c.place_of-place.result i place f));
    }

pub returns-in_default-clause-only : goal.returns-in_default-clause-only
returns-in_default-clause-only c = λ i f.
    let t = tree c.args.from.node in
    let place =
    place_by_texts c.args.objects c.args.questions.now c.place_of-place.result c.args.from c.of-to.result
    c.of-to.ensures c.place_of-place.ensures in
    let other : c.in-Some.question.from.short_hash ≡ short_hash_of (text_of t)
    → same_text (from_in c.args.objects c.in-Some.question) t ≡ false =
    λ m. c.is.ensures.other c.if-is.false (m ∙ sym c.args.from.hashed) in
    absurd (none_here c.args.objects c.args.questions.now t c.place_of-place.result i place
    (λ q e. let is : c.in-Some.question ≡ q = cc (c.in-Some.ensures, e) in
    subst (λ w. w.from.short_hash ≡ short_hash_of (text_of t) → same_text (from_in c.args.objects w) t ≡ false) is
    other) f)

pub returns-in_default-2-clause-only : goal.returns-in_default-2-clause-only
returns-in_default-2-clause-only c = λ i f.
    let t = tree c.args.from.node in
    let place =
    place_by_texts c.args.objects c.args.questions.now c.place_of-place.result c.args.from c.of-to.result
    c.of-to.ensures c.place_of-place.ensures in
    absurd (none_here c.args.objects c.args.questions.now t c.place_of-place.result i place
    (λ q e. absurd (cc (c.question_at.ensures, c.in_default.is, e))) f)
