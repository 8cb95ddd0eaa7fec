use Rattle.p10_clean_laws.proofs.Arithmetic.{clean_arithmetic_is_exact}
use Rattle.p10_clean_laws.proofs.Shifting.{clean_shifts_go}
use Rattle.p10_clean_laws.proofs.laws.clean_operators_stay_in_their_types.Goals as goal

pub returns-clause-arithmetic : goal.returns-clause-arithmetic
returns-clause-arithmetic c = clean_arithmetic_is_exact

pub returns-clause-shifts : goal.returns-clause-shifts
returns-clause-shifts c = clean_shifts_go
