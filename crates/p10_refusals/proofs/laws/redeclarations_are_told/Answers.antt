use Rattle.p10_refusals.proofs.Redeclarations.{redeclarations_told}
use Rattle.p10_refusals.proofs.laws.redeclarations_are_told.Goals as goal

pub returns : goal.returns
returns c = redeclarations_told c.form_rows_are_told.ensures
