use Rattle.p10_refusals.proofs.InBodies.{parts_of_bodies_told}
use Rattle.p10_refusals.proofs.laws.parts_of_bodies_are_told.Goals as goal

pub returns : goal.returns
returns c = parts_of_bodies_told c.form_rows_are_told.ensures
