use Rattle.p10_pairing_laws.proofs.Trees.{functions_stay_same}
use Rattle.p10_pairing_laws.proofs.laws.functions_stay_same.Goals as goal

pub returns : goal.returns
returns c = functions_stay_same
