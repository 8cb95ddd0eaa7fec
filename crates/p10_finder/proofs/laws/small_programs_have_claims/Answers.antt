use Rattle.p10_finder.proofs.Computed.{worked_claims}
use Rattle.p10_finder.proofs.laws.small_programs_have_claims.Goals as goal

pub returns : goal.returns
returns c = worked_claims
