use Rattle.p10_code.proofs.TaskRunning.{first_part_is_exact, turn_is_exact}
use Rattle.p10_code.proofs.laws.task_code_is_exact.Goals as goal

pub returns-clause-first : goal.returns-clause-first
returns-clause-first c = first_part_is_exact

pub returns-clause-turn : goal.returns-clause-turn
returns-clause-turn c = turn_is_exact
