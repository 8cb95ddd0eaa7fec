use Rattle.p10_calls.proofs.Uniqueness.{ranks_are_unique}
use Rattle.p10_calls.proofs.laws.ranks_are_unique.Goals as goal

pub returns : goal.returns
returns c = ranks_are_unique
