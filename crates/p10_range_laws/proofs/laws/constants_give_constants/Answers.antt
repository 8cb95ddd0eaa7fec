use Rattle.p10_range_laws.proofs.Constants.{constants_give_constants}
use Rattle.p10_range_laws.proofs.laws.constants_give_constants.Goals as goal

pub returns : goal.returns
returns c = constants_give_constants
