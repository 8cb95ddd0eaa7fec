use Rattle.p10_range_laws.proofs.OtherConstants.{other_constants_give_constants, constants_give_ranges}
use Rattle.p10_range_laws.proofs.laws.other_constants_are_told.Goals as goal

pub returns-clause-constants : goal.returns-clause-constants
returns-clause-constants c = other_constants_give_constants

pub returns-clause-ranges : goal.returns-clause-ranges
returns-clause-ranges c = constants_give_ranges
