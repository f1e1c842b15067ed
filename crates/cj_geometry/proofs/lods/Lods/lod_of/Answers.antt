use Rattle.cj_geometry.proofs.Common.{sym, ◌∙◌}
use Rattle.cj_geometry.proofs.Values.{line_if}
use Rattle.cj_geometry.proofs.lods.Lods.lod_of.Goals as goal

pub returns-then-is_an_instance-clause-line : goal.returns-then-is_an_instance-clause-line
returns-then-is_an_instance-clause-line c =
    line_if _ _ _ (sym c.if-is_an_instance.true ∙ c.is_an_instance.ensures) c.lod_of_template.ensures.source
