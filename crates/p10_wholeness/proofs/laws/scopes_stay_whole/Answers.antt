use Rattle.p10_wholeness.proofs.KeepingDeclarations.{scopes_stay_whole}
use Rattle.p10_wholeness.proofs.laws.scopes_stay_whole.Goals as goal

pub returns : goal.returns
returns c = scopes_stay_whole
