use Rattle.p10_core.proofs.Bareness.{compatible_types_lie_alike}
use Rattle.p10_core.proofs.laws.compatible_types_lie_alike.Goals as goal

pub returns : goal.returns
returns c = compatible_types_lie_alike
