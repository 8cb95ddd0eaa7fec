use Rattle.p10_int.proofs.Conversions.{converted_in, converted_keeps}
use Rattle.p10_int.proofs.laws.conversion_keeps_values.Goals as goal

pub returns-clause-range : goal.returns-clause-range
returns-clause-range c = converted_in

pub returns-clause-keeps : goal.returns-clause-keeps
returns-clause-keeps c = converted_keeps
