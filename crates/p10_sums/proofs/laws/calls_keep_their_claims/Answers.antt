use Rattle.p10_sums.proofs.SpendingClaims.{claims_kept}
use Rattle.p10_sums.proofs.laws.calls_keep_their_claims.Goals as goal

pub returns : goal.returns
returns c = claims_kept
