use Rattle.p10_incr.proofs.Suffice.{clean_functions_suffice}
use Rattle.p10_incr.proofs.laws.clean_functions_suffice.Goals as goal

pub returns : goal.returns
returns c = clean_functions_suffice
