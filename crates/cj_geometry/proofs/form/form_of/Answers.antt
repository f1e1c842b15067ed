use Rattle.cj_geometry.proofs.Common.{Some, ap, chars, codes, sym, ◌∙◌}
use Rattle.cj_geometry.proofs.Values.{other_text}
use Rattle.cj_geometry.proofs.form.form_of.Goals as goal

-- the two rows before it are of other names
pub returns-then-text_is : goal.returns-then-text_is
unfolding chars
returns-then-text_is c =
    let h = sym c.text_is.ensures.test ∙ c.if-text_is.true in
    let a = other_text _ (chars (codes "MultiPoint")) _ h in
    let b = other_text _ (chars (codes "MultiLineString")) _ h in
    rw (a, b, h) (ap Some c.parts.ensures)
