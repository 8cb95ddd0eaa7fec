use Rattle.p10_sums.proofs.SpendingTasks.{first_parts_take, turns_take}
use Rattle.p10_sums.proofs.laws.turns_take_what_they_cost.Goals as goal

pub returns-clause-first : goal.returns-clause-first
returns-clause-first c = first_parts_take

pub returns-clause-turns : goal.returns-clause-turns
returns-clause-turns c = turns_take
