use Rattle.p10_task_laws.proofs.Computed.{small_programs_turn}
use Rattle.p10_task_laws.proofs.laws.small_programs_turn.Goals as goal

pub returns : goal.returns
returns c = small_programs_turn
