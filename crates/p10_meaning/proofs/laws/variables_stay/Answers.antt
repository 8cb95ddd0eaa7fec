use Rattle.p10_meaning.proofs.Staying.{variables_stay, values_leave_frames}
use Rattle.p10_meaning.proofs.laws.variables_stay.Goals as goal

pub returns-clause-statements : goal.returns-clause-statements
returns-clause-statements c = variables_stay

pub returns-clause-values : goal.returns-clause-values
returns-clause-values c = values_leave_frames
