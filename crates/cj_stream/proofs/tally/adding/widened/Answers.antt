use Rattle.std.proofs.Common.{rules, ◌≡◌, ap, ◌∙◌, to_z, of_z, w64}
use Rattle.std.specs.Int.{int_min, int_max}
use Rattle.cj_stream.proofs.Ranges.{Widens-ends}
use Rattle.cj_stream.proofs.tally.adding.widened.Goals as goal

pub returns : goal.returns
returns c =
    let number : to_z w64 (of_z w64 c.args.number) ≡ c.args.number = search rules in
    let least : to_z w64 (of_z w64 c.args.range.0) ≡ c.args.range.0 = search rules in
    let greatest : to_z w64 (of_z w64 c.args.range.1) ≡ c.args.range.1 = search rules in
    let min_fits : to_z w64 (of_z w64 c.min.result) ≡ c.min.result = search rules in
    let max_fits : to_z w64 (of_z w64 c.max.result) ≡ c.max.result = search rules in
    let low = min_fits ∙ c.min.ensures.value ∙ ap (λ z. int_min z (to_z w64 (of_z w64 c.args.number))) least
    ∙ ap (int_min c.args.range.0) number in
    let high = max_fits ∙ c.max.ensures.value ∙ ap (λ z. int_max z (to_z w64 (of_z w64 c.args.number))) greatest
    ∙ ap (int_max c.args.range.1) number in
    rw (low, high) (Widens-ends c.args.range.0 c.args.range.1 c.args.number)
