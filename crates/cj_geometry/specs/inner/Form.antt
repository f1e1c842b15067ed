-- What a form of the code says.
use Rattle.cj_geometry.specs.declared.form.Form.{Form as FormOf}
use Rattle.cj_geometry.specs.declared.form.Form.TheVariants.{Parts, Instance}
use Rattle.cj_geometry.specs.Meaning.Table.{TypeForm, parts, instance}

abbrev pub form_value : FormOf → TypeForm
form_value (Parts depth values) = parts depth values
form_value Instance = instance
