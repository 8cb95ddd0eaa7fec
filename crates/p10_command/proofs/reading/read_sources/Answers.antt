use Rattle.p10_command.proofs.Answered.{are_over}
use Rattle.p10_command.proofs.reading.read_sources.Goals as goal

pub returns-in-Over : goal.returns-in-Over
returns-in-Over c = are_over c.args.sources.now c.in-Err.fault c.in-Over.limit c.in-Over.is c.in-Err.ensures.fault
