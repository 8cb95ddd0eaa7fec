use Rattle.p10_gen_command.proofs.Gathering.{fault_right}
use Rattle.p10_gen_command.proofs.decide.decide.Goals as goal

pub returns-in-Over : goal.returns-in-Over
returns-in-Over c = fault_right c.args.functions c.in-Err.fault c.in-Over.limit c.in-Over.is c.in-Err.ensures.fault
