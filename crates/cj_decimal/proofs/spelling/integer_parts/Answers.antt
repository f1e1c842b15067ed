use Rattle.cj_decimal.proofs.Common.{ap, sym, ◌∙◌, refl, is_int, digits_front, digits_rest, written_of}
use Rattle.cj_decimal.proofs.Parts.{integer_spells, nothing_follows}
use Rattle.cj_decimal.proofs.spelling.integer_parts.Goals as goal

pub returns-clause-number : goal.returns-clause-number
returns-clause-number c =
    let s = c.args.spelling.now in
    let int = sym (ap (λ b. is_int (digits_front b)) c.requires.body) ∙ sym c.is_int_part.ensures
    ∙ c.if-not-is_int_part.false in
    let none = sym (ap digits_rest c.requires.body) ∙ sym c.requires.stops.rest ∙ nothing_follows s in
    (λ _. (written_of s, integer_spells s int none), λ _. refl)
