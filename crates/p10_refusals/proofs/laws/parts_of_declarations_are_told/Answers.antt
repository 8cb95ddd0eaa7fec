use Rattle.p10_refusals.proofs.InsideDeclarations.{parts_told}
use Rattle.p10_refusals.proofs.laws.parts_of_declarations_are_told.Goals as goal

pub returns : goal.returns
returns c = parts_told c.lengths_are_told.ensures c.form_rows_are_told.ensures
