use Rattle.cj_feature.proofs.Common.{IsMarked, Some, ap, chars, codes, document, document_line, document_source, member_of, option_map, rules, sym, tokens_in, tree, ◌∙◌, ◌≡◌}
use Rattle.cj_spans.proofs.Noted.{the-document, the-json, line-of-document}
use Rattle.cj_feature.proofs.NearLemmas.{guide-on, known-here, waits-here, waits-there}
use Rattle.cj_feature.proofs.feature.search.near.Near.look_behind.Goals as goal

pub note_children-requires : goal.note_children-requires
note_children-requires g c =
    let d = c.args.doc in
    let n = c.in-Some.objects in
    let o : member_of (chars (codes "CityObjects")) (document d) ≡ Some (tree n) =
    ap (member_of (chars (codes "CityObjects"))) (sym c.root-root.ensures.tree) ∙ sym c.get.ensures.value
    ∙ ap (option_map tree) c.in-Some.is in (
      search rules,
      known-here n d (c.in-Some.ensures.source ∙ c.root-root.ensures.source) c.args.self.now.lists
          (c.requires.known (document d) (tree n) (the-json d c.requires.of) o),
    )

pub returns-in-Some : goal.returns-in-Some
returns-in-Some g c =
    let d = c.args.doc in
    let n = c.in-Some.objects in
    let u = c.at-object.result in
    let source = c.in-Some.ensures.source ∙ c.root-root.ensures.source in
    let u_source = c.at-object.ensures.source ∙ c.root-root.ensures.source in
    let here : IsMarked (document_line d) (tokens_in (document_source d)) (tree u) =
    rw (line-of-document u d u_source, u_source) at (c.marked.ensures.yes c.if-marked.true) in
    guide-on c.requires c.note_children.ensures.hand (λ f j waits.
    let is = c.root-root.ensures.tree ∙ the-document d c.requires.of f j in
    let o : member_of (chars (codes "CityObjects")) f ≡ Some (tree n) =
    ap (member_of (chars (codes "CityObjects"))) (sym is) ∙ sym c.get.ensures.value
    ∙ ap (option_map tree) c.in-Some.is in
    waits-there n d source f c.note_children.new.self.pending
    (c.note_children.ensures.pending f o (c.requires.sound f j (tree u) here)
    (waits-here n d source f c.args.self.now.pending waits)))
