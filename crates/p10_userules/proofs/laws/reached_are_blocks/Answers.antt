use Rattle.p10_userules.proofs.Namings.{reached_are}
use Rattle.p10_userules.proofs.laws.reached_are_blocks.Goals as goal

pub returns : goal.returns
returns c = reached_are
