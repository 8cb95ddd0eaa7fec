use Rattle.p10_elabx.proofs.Ties.{tied}
use Rattle.p10_elabx.proofs.laws.the_first_is_kept.Goals as goal

pub returns : goal.returns
returns c = tied
