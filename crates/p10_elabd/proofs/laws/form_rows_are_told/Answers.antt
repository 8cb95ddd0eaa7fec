use Rattle.p10_elabd.proofs.FormRows.{form_rows_are_told}
use Rattle.p10_elabd.proofs.laws.form_rows_are_told.Goals as goal

pub returns : goal.returns
returns c = form_rows_are_told
