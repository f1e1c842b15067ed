use Rattle.cj_spans.proofs.Common.{refl, ap, arith, ◌∙◌, sym, ◌<◌, length, nat_tests, chars, head}
use Rattle.cj_spans.proofs.Quoted.{plain_character}
use Rattle.cj_spans.proofs.node.Members.slot_of.Goals as goal

pub returns-clause-slot : goal.returns-clause-slot
returns-clause-slot c =
    let bytes = c.as_bytes-bytes.result.now in
    let same = c.as_bytes-bytes.ensures.value in
    let some : 0 < length bytes = grind (arith, nat_tests, sym c.is_empty.ensures ∙ c.if-is_empty.false) in
    let first = plain_character bytes 0 some (omega arith) in
    (_, ap (λ s. head (chars s)) (sym same) ∙ ap head first, refl)
