use Rattle.p10_gen_command.proofs.Succeeding.{few}
use Rattle.p10_gen_command.proofs.laws.few_statuses_are_right.Goals as goal

pub returns : goal.returns
returns c = few
