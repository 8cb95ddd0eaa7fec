use Rattle.p10_root_wholeness.proofs.KeepingOutside.{scopes_of_roots_are_whole}
use Rattle.p10_root_wholeness.proofs.laws.scopes_of_roots_are_whole.Goals as goal

pub returns : goal.returns
returns c = scopes_of_roots_are_whole
