use Rattle.cj_spans.proofs.Common.{◌≡◌, slice_get, Some, ap, sym, ◌∙◌, is_marked_at}
use Rattle.std.specs.Prelude.{slice_set}
use Rattle.cj_spans.proofs.Noted.{with_mark, marked_here, marked_elsewhere, keeps}
use Rattle.cj_spans.proofs.mark.set_mark.Goals as goal

-- the elements afterwards
become : (c : goal.After-set)
    → c.set.new.self.elements ≡ slice_set c.args.tokens.now.elements c.args.number (with_mark c.token_at-token.result)
become c = ap (λ b. b.elements) c.set.ensures.set ∙ ap (slice_set _ _) c.with_mark.ensures

pub returns : goal.returns
returns c = record {
  marked =
      ap (λ ts. is_marked_at ts c.args.number) (become c)
      ∙ marked_here c.args.tokens.now.elements c.args.number c.token_at-token.result c.requires;
  others =
      λ k h.
      ap (λ ts. is_marked_at ts k) (become c)
      ∙ marked_elsewhere c.args.tokens.now.elements c.args.number k (with_mark c.token_at-token.result) h;
  kept =
      let old = c.args.tokens.now in
      let new = c.set.new.self in
      let t = c.token_at-token.result in
      let found : slice_get old.elements c.args.number ≡ Some t =
      ap (λ ts. slice_get ts c.args.number) (sym c.as_slice.ensures.value) ∙ c.token_at-token.ensures in
      let list : new ≡ record old { elements = new.elements } = c.set.ensures.set
      ∙ ap (λ ts. record old { elements = ts }) (sym (ap (λ b. b.elements) c.set.ensures.set)) in
      keeps old c.args.number t found (become c) list c.set.ensures.within;
}
