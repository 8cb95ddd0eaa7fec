use Rattle.p10_gen_command.proofs.Succeeding.{success}
use Rattle.p10_gen_command.proofs.laws.success_is_told.Goals as goal

pub returns : goal.returns
returns c = success
