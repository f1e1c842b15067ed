use Rattle.cj_spans.proofs.Common.{◌≡◌, length, arith, nat_tests}
use Rattle.cj_spans.proofs.Quoted.{same_alike}
use Rattle.cj_spans.proofs.text.compare.has_bytes.Goals as goal

pub returns-then-length-le-LANES : goal.returns-then-length-le-LANES
returns-then-length-le-LANES c = λ h.
    let alike = c.count_few_alike.ensures in
    let all : c.count_few_alike.result ≡ length c.args.characters.now = grind (arith, nat_tests, h) in
    same_alike c.count_few_alike.result c.args.characters.now 0 c.args.body.now 1 (omega (arith, all))
    (omega (arith, all, c.requires)) alike.alike
