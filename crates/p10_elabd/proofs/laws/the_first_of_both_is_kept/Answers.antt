use Rattle.p10_elabd.proofs.Keeping.{the_first_of_both_is_kept}
use Rattle.p10_elabd.proofs.laws.the_first_of_both_is_kept.Goals as goal

pub returns : goal.returns
returns c = the_first_of_both_is_kept
