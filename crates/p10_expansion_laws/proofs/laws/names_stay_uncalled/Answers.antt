use Rattle.p10_expansion_laws.proofs.Staying.{names_stay_uncalled}
use Rattle.p10_expansion_laws.proofs.laws.names_stay_uncalled.Goals as goal

pub returns : goal.returns
returns c = names_stay_uncalled
