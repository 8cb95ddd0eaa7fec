use Rattle.p10_pairing_laws.proofs.Scopes.{scopes_stay_same}
use Rattle.p10_pairing_laws.proofs.laws.scopes_stay_same.Goals as goal

pub returns : goal.returns
returns c = scopes_stay_same
