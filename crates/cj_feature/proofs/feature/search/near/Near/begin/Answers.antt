use Rattle.cj_feature.proofs.Common.{Json, Some, Tree, ap, chars, codes, document, document_line, document_source, member_of, members_of, option_map, rules, spans_of, sym, tokens_in, tree, ◌∙◌, ◌≡◌}
use Rattle.cj_spans.proofs.Noted.{the-document, the-json}
use Rattle.cj_feature.proofs.NearLemmas.{id-reached, known-here, known-there, named-kept, waits-here, waits-there}
use Rattle.cj_feature.proofs.feature.search.near.Near.begin.Goals as goal

pub gather-requires : goal.gather-requires
gather-requires g c =
    let d = c.args.doc in
    let n = c.in-Some-Some.objects in
    let o : member_of (chars (codes "CityObjects")) (document d) ≡ Some (tree n) =
    ap (member_of (chars (codes "CityObjects"))) (sym c.root-root.ensures.tree) ∙ sym c.get-2.ensures.value
    ∙ ap (option_map tree) c.in-Some-Some.is-1 in (
      search rules,
      known-here n d (c.in-Some-Some.ensures'.source ∙ c.root-root.ensures.source) c.args.self.now.lists
          (c.requires.known (document d) (tree n) (the-json d c.requires.of) o),
    )

pub returns : goal.returns
returns g c =
    let d = c.args.doc in
    let root = tree c.root-root.result in
    let n = c.in-Some-Some.objects in
    let id = tree c.in-Some-Some.id in
    let source = c.in-Some-Some.ensures'.source ∙ c.root-root.ensures.source in
    let i : member_of (chars (codes "id")) root ≡ Some id = sym c.get.ensures.value
    ∙ ap (option_map tree) c.in-Some-Some.is-0 in
    let o : member_of (chars (codes "CityObjects")) root ≡ Some (tree n) = sym c.get-2.ensures.value
    ∙ ap (option_map tree) c.in-Some-Some.is-1 in
    let is = λ (f : Tree) (j : Json (document_line d) f). c.root-root.ensures.tree ∙ the-document d c.requires.of f j in
    record {
      of = c.requires.of;
      known = λ f u j e.
          let same : tree n ≡ u = cc (o, is f j, e) in
          rw (← same) (named-kept (members_of (tree n)) (document_line d) (spans_of (tokens_in (document_source d)))
          c.note.ensures.hand (known-there n d source c.gather.new.self c.gather.ensures));
      waiting = λ f j.
          waits-there n d source f c.note.new.self.pending
          (c.note.ensures.pending f (id-reached f id n (rw (is f j) at i) (rw (is f j) at o))
          (waits-here n d source f c.args.self.now.pending (c.requires.waiting f j)));
      sound = c.requires.sound;
    }
