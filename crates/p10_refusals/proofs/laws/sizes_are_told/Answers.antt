use Rattle.p10_refusals.proofs.Sizes.{sizes_told}
use Rattle.p10_refusals.proofs.laws.sizes_are_told.Goals as goal

pub returns : goal.returns
returns c = sizes_told c.form_rows_are_told.ensures
