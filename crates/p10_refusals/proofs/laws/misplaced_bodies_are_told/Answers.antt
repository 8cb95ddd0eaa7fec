use Rattle.p10_refusals.proofs.MisplacedBodies.{misplaced_bodies_told}
use Rattle.p10_refusals.proofs.laws.misplaced_bodies_are_told.Goals as goal

pub returns : goal.returns
returns c = misplaced_bodies_told c.lengths_are_told.ensures c.form_rows_are_told.ensures
