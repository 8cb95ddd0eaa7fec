use Rattle.p10_refusals.proofs.Bodies.{definitions_told}
use Rattle.p10_refusals.proofs.laws.definitions_are_told.Goals as goal

pub returns : goal.returns
returns c = definitions_told c.lengths_are_told.ensures c.form_rows_are_told.ensures c.nameless_parameters_are_told.ensures
