use Rattle.p10_expand.proofs.Once.{ends_once}
use Rattle.p10_expand.proofs.laws.ends_once.Goals as goal

pub returns : goal.returns
returns c = ends_once
