use Rattle.p10_refusals.proofs.Told.{the_first_of_all_is_told}
use Rattle.p10_refusals.proofs.laws.the_first_of_all_is_told.Goals as goal

pub returns : goal.returns
returns c = the_first_of_all_is_told
