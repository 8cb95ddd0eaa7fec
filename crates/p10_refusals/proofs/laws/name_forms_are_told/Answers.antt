use Rattle.p10_refusals.proofs.NameForms.{name_forms_told}
use Rattle.p10_refusals.proofs.laws.name_forms_are_told.Goals as goal

pub returns : goal.returns
returns c = name_forms_told c.form_rows_are_told.ensures
