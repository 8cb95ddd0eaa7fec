use Rattle.p10_loopless.proofs.Bodies.{same_entry}
use Rattle.p10_loopless.proofs.laws.same_entry.Goals as goal

pub returns : goal.returns
returns c = same_entry
