use Rattle.p10_userules.proofs.Namings.{used_nowhere_else}
use Rattle.p10_userules.proofs.laws.used_only_is_used_nowhere_else.Goals as goal

pub returns : goal.returns
returns c = used_nowhere_else
