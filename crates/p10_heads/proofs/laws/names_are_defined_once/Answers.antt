use Rattle.p10_heads.proofs.DefiningOnce.{names_are_defined_once}
use Rattle.p10_heads.proofs.laws.names_are_defined_once.Goals as goal

pub returns : goal.returns
returns c = names_are_defined_once
