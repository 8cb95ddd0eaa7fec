use Rattle.p10_refusals.proofs.InRoots.{declarations_told}
use Rattle.p10_refusals.proofs.laws.declarations_are_told.Goals as goal

pub returns : goal.returns
returns c = declarations_told c.form_rows_are_told.ensures
