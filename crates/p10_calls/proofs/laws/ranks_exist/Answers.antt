use Rattle.p10_calls.proofs.Existence.{ranks_exist}
use Rattle.p10_calls.proofs.laws.ranks_exist.Goals as goal

pub returns : goal.returns
returns c = ranks_exist
