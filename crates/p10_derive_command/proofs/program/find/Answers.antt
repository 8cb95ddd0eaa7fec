use Rattle.p10_derive_command.proofs.Deriving.{found_of}
use Rattle.p10_derive_command.proofs.program.find.Goals as goal

pub returns : goal.returns
returns c = found_of c.args.reading.now.program c.in-Some.program c.args.diff _ c.in-Some.is c.find_if.ensures
