use Rattle.p10_constant_laws.proofs.Known.{constants_are_known, remainders_are_ranges}
use Rattle.p10_constant_laws.proofs.laws.constants_are_known.Goals as goal

pub returns-clause-known : goal.returns-clause-known
returns-clause-known c = constants_are_known

pub returns-clause-remainders : goal.returns-clause-remainders
returns-clause-remainders c = remainders_are_ranges
