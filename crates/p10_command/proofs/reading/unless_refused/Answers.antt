use Rattle.p10_command.proofs.Answered.{are_program, are_refused}
use Rattle.p10_command.proofs.reading.unless_refused.Goals as goal

pub returns-in-Some : goal.returns-in-Some
returns-in-Some c = are_refused c.args.sources.now c.args.reading c.in-Some.refusal c.requires.read c.in-Some.is c.requires.refusal

pub returns-in-None : goal.returns-in-None
returns-in-None c = are_program c.args.sources.now c.args.reading c.requires.read c.in-None.is c.requires.program c.requires.whole
