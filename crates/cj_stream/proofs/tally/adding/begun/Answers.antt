use Rattle.cj_stream.proofs.Common.{Some, Widens, [], of_z, rules, to_z, w64, ◌∷◌, ◌≡◌}
use Rattle.cj_stream.proofs.tally.adding.begun.Goals as goal

pub returns-in-Some : goal.returns-in-Some
returns-in-Some c =
    let number : to_z w64 (of_z w64 c.args.number) ≡ c.args.number = search rules in
    let wide : Widens (Some c.in-Some.range) (to_z w64 (of_z w64 c.args.number) ∷ []) (Some c.widened.result) =
    c.widened.ensures in
    rw c.in-Some.is (rw number at wide)
